use Rattle.std.proofs.Common.{◌≡◌, map, take}
use Rattle.p3_challenger_fs.specs.Pattern.{step_of, turn_of}
use Rattle.p3_challenger_fs.proofs.domain_separator.turns_of.Given as goal

abbrev pub invariant-loop-step : goal.invariant-loop-step
invariant-loop-step l = l.turns.items ≡ map turn_of (map step_of (take l.step-index l.steps))
