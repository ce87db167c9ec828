use Rattle.std.proofs.Common.{◌≡◌, ◌++◌, map, take}
use Rattle.p3_uni_stark_transcript.proofs.numbers.push_elements.Given as goal

abbrev pub invariant-loop-element : goal.invariant-loop-element
invariant-loop-element g l = l.numbers.items ≡ l.fn.numbers.items
    ++ map g.F.PrimeField64.canonical (take l.element-index l.elements)
