use Rattle.std.proofs.Common.{◌≡◌, ◌++◌, take}
use Rattle.fri_statement.specs.Statement.{numbers_bytes}
use Rattle.fri_statement.proofs.labels.push_numbers.Given as goal

abbrev pub invariant-loop-number : goal.invariant-loop-number
invariant-loop-number l =
    l.label.items ≡ l.fn.label.items ++ numbers_bytes (take l.number-index l.numbers)
