use Rattle.std.proofs.Common.{◌≡◌, ◌++◌, drop}
use Rattle.fri_soundness_error.specs.Errors.{batch_errors}
use Rattle.fri_soundness_error.proofs.soundness.errors_of_batches.Given as goal

abbrev pub invariant-loop-i : goal.invariant-loop-i
invariant-loop-i l =
    l.batches.items ++ batch_errors l.heights l.failing (drop l.i l.heights) (drop l.i l.columns)
    ≡ batch_errors l.heights l.failing l.heights l.columns
