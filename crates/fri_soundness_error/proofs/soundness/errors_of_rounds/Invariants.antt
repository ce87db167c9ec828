use Rattle.std.proofs.Common.{◌≡◌, ◌≤◌, ◌++◌, drop, sum}
use Rattle.fri_soundness_error.specs.Errors.{round_errors}
use Rattle.fri_soundness_error.proofs.soundness.errors_of_rounds.Given as goal

abbrev pub invariant-loop-log_arity : goal.invariant-loop-log_arity
invariant-loop-log_arity l =
    (l.rounds.items ++ round_errors l.heights l.failing (drop l.log_arity-index l.log_arities)
    l.log_height
    ≡ round_errors l.heights l.failing l.log_arities l.top)
    × (sum (drop l.log_arity-index l.log_arities) ≤ l.log_height)
    × (l.log_height ≤ l.top)
