use Rattle.std.proofs.Common.{◌≡◌, map, take}
use Rattle.p3_pcs.specs.Claims.{matrix_claim}
use Rattle.fri_numbers.specs.Claims.{matrix_by, matrix_listed}
use Rattle.fri_numbers.proofs.claims.commitment_opening.Given as goal

abbrev pub invariant-loop-index : goal.invariant-loop-index
invariant-loop-index g l = map (matrix_by g.N.Numbered.numbers_of g.N.Numbered.shift_of g.N.Numbered.log_size_of) (map matrix_claim l.matrices.items)
    ≡ map matrix_listed (take l.index l.claims.matrices.items)
