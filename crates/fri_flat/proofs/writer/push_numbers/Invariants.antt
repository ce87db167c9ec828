use Rattle.std.proofs.Common.{◌≡◌, ◌++◌, take}
use Rattle.fri_flat.specs.Flat.{numbers}
use Rattle.fri_flat.proofs.writer.push_numbers.Given as goal

abbrev pub invariant-loop-value : goal.invariant-loop-value
invariant-loop-value l = l.out.items
    ≡ l.fn.out.items ++ numbers l.layout (take l.value-index l.values)
