use Rattle.std.proofs.Common.{◌≡◌, map, take}
use Rattle.algebra.specs.Nested.{lists}
use Rattle.p3_pcs.specs.Claims.{matrix_claim}
use Rattle.p3_uni_stark_verifier.specs.Claimed.{at_one}
use Rattle.p3_uni_stark_verifier.proofs.claims.chunk_matrices.Given as goal

abbrev pub invariant-loop-index : goal.invariant-loop-index
invariant-loop-index g l = map matrix_claim l.openings.items
    ≡ map (at_one l.domain l.point) (take l.index (lists l.chunks))
