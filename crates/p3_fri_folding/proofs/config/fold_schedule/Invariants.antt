use Rattle.std.proofs.Common.{◌-◌, ◌≡◌, ◌∷◌, ◌++◌}
use Rattle.p3_fri_folding.specs.Schedule.{schedule}
use Rattle.p3_fri_folding.proofs.Rounds.{FallsFrom}
use Rattle.p3_fri_folding.proofs.config.fold_schedule.Given as goal

-- the rounds so far, and the schedule from here on, are the schedule
abbrev pub invariant-loop-log_height : goal.invariant-loop-log_height
invariant-loop-log_height l = record {
  falls : FallsFrom l.log_height l.further;
  so_far : l.schedule.items ++ schedule (l.log_height ∷ l.further) l.log_final_height l.max_log_arity ≡ schedule l.heights l.log_final_height l.max_log_arity;
}

abbrev pub decreases-loop-log_height : goal.decreases-loop-log_height
decreases-loop-log_height l = l.log_height - l.log_final_height
