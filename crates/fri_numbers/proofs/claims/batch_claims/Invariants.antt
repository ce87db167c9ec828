use Rattle.std.proofs.Common.{◌≡◌, map, take}
use Rattle.p3_pcs.specs.Claims.{matrix_claim}
use Rattle.fri_numbers.specs.Claims.{matrix_by, matrix_listed}
use Rattle.fri_numbers.proofs.claims.batch_claims.Given as goal

abbrev pub invariant-loop-matrix : goal.invariant-loop-matrix
invariant-loop-matrix g l = map matrix_listed l.matrices.items
    ≡ map (matrix_by g.N.Numbered.numbers_of g.N.Numbered.shift_of g.N.Numbered.log_size_of)
    (map matrix_claim (take l.matrix-index l.opening.matrices.items))
