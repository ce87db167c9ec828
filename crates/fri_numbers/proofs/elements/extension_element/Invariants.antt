use Rattle.std.proofs.Common.{◌≡◌, map, take}
use Rattle.fri_numbers.proofs.elements.extension_element.Given as goal

abbrev pub invariant-loop-index : goal.invariant-loop-index
invariant-loop-index g l = map g.F.PrimeField64.canonical
    (take l.index (g.EF.ExtensionField.coefficients l.element)) ≡ take l.index l.numbers
