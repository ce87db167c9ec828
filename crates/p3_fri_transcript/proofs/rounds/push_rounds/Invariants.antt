use Rattle.std.proofs.Common.{◌≡◌, ◌-◌, ◌++◌, map}
use Rattle.p3_challenger_fs.specs.Pattern.{step_of}
use Rattle.p3_fri_transcript.specs.Steps.{rounds_steps}
use Rattle.p3_fri_transcript.proofs.rounds.push_rounds.Given as goal

abbrev pub invariant-loop : goal.invariant-loop
invariant-loop g l =
    map step_of l.steps.items ++ rounds_steps g.EF.ExtensionField.DIMENSION l.pow_bits (l.rounds - l.counter)
    ≡ map step_of l.initial.steps.items ++ rounds_steps g.EF.ExtensionField.DIMENSION l.pow_bits l.rounds
