use Rattle.std.proofs.Common.{◌≡◌, ◌-◌, ◌++◌, take}
use Rattle.p3_challenger_core.specs.Run.{draws}
use Rattle.p3_challenger_core.proofs.field_challenger.FieldChallenger.sample_algebra_element.Given
    as goal

abbrev pub invariant-loop-index : goal.invariant-loop-index
invariant-loop-index g l =
    let left = draws g.Self.CanSample.sampled l.self (g.EF.ExtensionField.DIMENSION - l.index) in
    let all = draws g.Self.CanSample.sampled l.fn.self g.EF.ExtensionField.DIMENSION in
    record {
      values : take l.index (g.EF.ExtensionField.coefficients l.element) ++ left.value ≡ all.value;
      state : left.state ≡ all.state;
    }
