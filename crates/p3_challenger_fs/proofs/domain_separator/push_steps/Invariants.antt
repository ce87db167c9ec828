use Rattle.std.proofs.Common.{◌≡◌, ◌++◌, map, drop}
use Rattle.std.specs.List.{flat_map}
use Rattle.p3_challenger_fs.specs.Pattern.{step_of, step_bytes}
use Rattle.p3_challenger_fs.proofs.domain_separator.push_steps.Given as goal

abbrev pub invariant-loop-step : goal.invariant-loop-step
invariant-loop-step l =
    l.stream.items ++ flat_map step_bytes (map step_of (drop l.step-index l.steps))
    ≡ l.initial.stream.items ++ flat_map step_bytes (map step_of l.steps)
