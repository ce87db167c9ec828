use Rattle.std.proofs.Common.{◌≡◌, ◌++◌, take}
use Rattle.p3_uni_stark_quotient.proofs.chunks.push_coefficients.Given as goal

abbrev pub invariant-loop-index : goal.invariant-loop-index
invariant-loop-index g l = l.coefficients.items
    ≡ l.fn.coefficients.items ++ take l.index (g.EF.ExtensionField.coefficients l.fn.value)
