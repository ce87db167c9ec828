use Rattle.std.proofs.Common.{◌≡◌, ◌++◌}
use Rattle.algebra.specs.Polynomial.{tabulate}
use Rattle.p3_uni_stark_quotient.proofs.lanes.push_lanes.Given as goal

abbrev pub invariant-loop-lane : goal.invariant-loop-lane
invariant-loop-lane g l = l.elements.items
    ≡ l.initial.elements.items ++ tabulate l.lane (g.P.PackedField.lane l.packed)
