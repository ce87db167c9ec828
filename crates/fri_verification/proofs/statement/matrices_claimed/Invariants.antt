use Rattle.std.proofs.Common.{◌≡◌, map, take}
use Rattle.p3_pcs.specs.Claims.{matrix_claim}
use Rattle.fri_verification.specs.Bound.{matrix_claimed, matrix_stated}
use Rattle.fri_numbers.specs.Claims.{matrix_by}
use Rattle.fri_verification.proofs.statement.matrices_claimed.Given as goal

abbrev pub invariant-loop-matrix : goal.invariant-loop-matrix
invariant-loop-matrix g l = map (matrix_stated g.N.Numbered.numbers_of g.N.Numbered.shift_of g.N.Numbered.log_size_of) l.all.items
    ≡ map (λ m. matrix_claimed (matrix_by g.N.Numbered.numbers_of g.N.Numbered.shift_of g.N.Numbered.log_size_of (matrix_claim m)))
    (take l.matrix-index l.matrices)
