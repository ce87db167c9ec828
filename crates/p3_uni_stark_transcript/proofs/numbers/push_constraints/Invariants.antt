use Rattle.std.proofs.Common.{◌≡◌, ◌++◌, take}
use Rattle.std.specs.List.{flat_map}
use Rattle.p3_uni_stark_transcript.specs.Instance.{constraint_numbers}
use Rattle.p3_uni_stark_transcript.proofs.numbers.push_constraints.Given as goal

abbrev pub invariant-loop-constraint : goal.invariant-loop-constraint
invariant-loop-constraint l = l.numbers.items ≡ l.fn.numbers.items
    ++ flat_map constraint_numbers (take l.constraint-index l.constraints)
