use Rattle.std.proofs.Common.{◌≡◌, ◌++◌, take}
use Rattle.p3_uni_stark_transcript.specs.Instance.{numbers_bytes}
use Rattle.p3_uni_stark_transcript.proofs.numbers.push_numbers.Given as goal

abbrev pub invariant-loop-number : goal.invariant-loop-number
invariant-loop-number l =
    l.label.items ≡ l.fn.label.items ++ numbers_bytes (take l.number-index l.numbers)
