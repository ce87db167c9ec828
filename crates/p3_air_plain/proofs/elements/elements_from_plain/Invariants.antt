use Rattle.std.proofs.Common.{◌≡◌, map, take}
use Rattle.p3_air_plain.proofs.elements.elements_from_plain.Given as goal

abbrev pub invariant-loop-entry : goal.invariant-loop-entry
invariant-loop-entry g l =
    map g.F.PrimeField64.canonical l.elements.items ≡ take l.entry l.numbers
