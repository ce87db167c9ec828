use Rattle.std.proofs.Common.{◌≡◌, map, take}
use Rattle.fri_numbers.proofs.elements.coefficients.Given as goal

abbrev pub invariant-loop-index : goal.invariant-loop-index
invariant-loop-index g l = l.numbers.items ≡ map g.F.PrimeField64.canonical
    (take l.index (g.EF.ExtensionField.coefficients l.element))
