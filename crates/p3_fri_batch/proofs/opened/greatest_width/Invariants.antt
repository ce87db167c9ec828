use Rattle.std.proofs.Common.{◌≤◌, All, take}
use Rattle.p3_matrix.specs.Matrix.{matrix_width}
use Rattle.p3_fri_batch.proofs.opened.greatest_width.Given as goal

abbrev pub invariant-loop-opened : goal.invariant-loop-opened
invariant-loop-opened g l = All (λ m. matrix_width m.matrix.now ≤ l.greatest)
    (take l.opened-index l.matrices)
