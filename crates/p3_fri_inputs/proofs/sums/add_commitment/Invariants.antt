use Rattle.algebra.specs.Nested.{lists}
use Rattle.p3_fri_inputs.specs.Claims.{claim_of}
use Rattle.p3_fri_inputs.proofs.Commitments.{AreSummedFrom}
use Rattle.p3_fri_inputs.proofs.sums.add_commitment.Given as goal

abbrev pub invariant-loop-k : goal.invariant-loop-k
invariant-loop-k g l =
    AreSummedFrom g.EF.Field.ops g.EF.ExtensionField.lift l.log_blowup l.ladder.alpha
    (claim_of (λ domain. domain.log_size) l.claim).matrices (lists l.rows)
    l.points.inverses.now l.fn.sums l.k l.end l.sums
