use Rattle.std.proofs.Common.{◌≤◌, All, take}
use Rattle.p3_matrix.specs.Matrix.{matrix_width}
use Rattle.p3_fri_openings.specs.Rounds.{HasCoset}
use Rattle.p3_fri_hiding_tests.proofs.openable.is_held.Given as goal

abbrev pub invariant-loop-matrix : goal.invariant-loop-matrix
invariant-loop-matrix l = record {
  cosets : All (HasCoset 27) (take l.matrix-index l.matrices);
  wide : All (λ m. l.hidden ≤ matrix_width m) (take l.matrix-index l.matrices);
}
