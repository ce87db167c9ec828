use Rattle.std.proofs.Common.{◌≡◌, drop}
use Rattle.std.specs.List.{flat_map}
use Rattle.p3_challenger_core.specs.Run.{observed_all}
use Rattle.p3_challenger_core.proofs.field_challenger.FieldChallenger.observe_algebra_slice.Given as
    goal

abbrev pub invariant-loop-element : goal.invariant-loop-element
invariant-loop-element g l =
    observed_all g.Self.CanObserve.observed l.self
    (flat_map g.EF.ExtensionField.coefficients (drop l.element-index l.elements))
    ≡ observed_all g.Self.CanObserve.observed l.fn.self
    (flat_map g.EF.ExtensionField.coefficients l.elements)
