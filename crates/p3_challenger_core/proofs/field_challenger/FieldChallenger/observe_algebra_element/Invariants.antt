use Rattle.std.proofs.Common.{◌≡◌, drop}
use Rattle.p3_challenger_core.specs.Run.{observed_all}
use Rattle.p3_challenger_core.proofs.field_challenger.FieldChallenger.observe_algebra_element.Given
    as goal

abbrev pub invariant-loop-index : goal.invariant-loop-index
invariant-loop-index g l =
    observed_all g.Self.CanObserve.observed l.self
    (drop l.index (g.EF.ExtensionField.coefficients l.element))
    ≡ observed_all g.Self.CanObserve.observed l.fn.self (g.EF.ExtensionField.coefficients l.element)
