use Rattle.std.proofs.Common.{◌∙◌, ◌≡◌, ◌<◌, length, arith}
use Rattle.p3_challenger_core.proofs.Runs.{observed_all-next, observed_all-end}
use Rattle.p3_challenger_core.proofs.field_challenger.FieldChallenger.observe_algebra_element.Goals
    as goal

pub loop-index-preserved : goal.loop-index-preserved
loop-index-preserved g c =
    let here = c.loop-index in
    let xs = g.EF.ExtensionField.coefficients c.args.element in
    let within : here.index < length xs =
    omega (arith, g.met.EF.ExtensionField.dimension_law c.args.element) in
    observed_all-next g.Self.CanObserve.observed here.self c.observe.new.self xs here.index
    c.coefficient.result g.F.Field.ops.zero within c.coefficient.ensures c.observe.ensures
    ∙ here.invariant

pub returns : goal.returns
returns g c =
    let here = c.loop-index in
    let xs = g.EF.ExtensionField.coefficients c.args.element in
    let end : here.index ≡ length xs =
    omega (arith, g.met.EF.ExtensionField.dimension_law c.args.element) in
    observed_all-end g.Self.CanObserve.observed here.self _ xs here.index end here.invariant
