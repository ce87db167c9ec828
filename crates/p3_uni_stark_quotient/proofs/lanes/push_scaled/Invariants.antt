use Rattle.std.proofs.Common.{◌≡◌, ◌++◌, slice_index_or}
use Rattle.algebra.specs.Polynomial.{tabulate}
use Rattle.p3_uni_stark_quotient.proofs.lanes.push_scaled.Given as goal

abbrev pub invariant-loop-lane : goal.invariant-loop-lane
invariant-loop-lane g l = l.values.items ≡ l.initial.values.items ++ tabulate l.lane (λ k.
    g.EF.Field.ops.mul (slice_index_or l.fn.sums k g.EF.Field.ops.zero)
    (g.EF.ExtensionField.lift (g.P.PackedField.lane l.fn.inv_vanishing k)))
