use Rattle.std.proofs.Common.{◌∙◌, ◌<◌, length, arith}
use Rattle.p3_challenger_core.proofs.Runs.{draws-state, draws-values}
use Rattle.p3_challenger_core.proofs.field_challenger.FieldChallenger.sample_algebra_element.Goals
    as goal

pub loop-index-preserved : goal.loop-index-preserved
loop-index-preserved g c =
    let E = g.EF.ExtensionField in
    let sampled = g.Self.CanSample.sampled in
    let here = c.loop-index in
    let drawn = c.sample in
    let xs = E.coefficients here.element in
    let ys = E.coefficients c.with_coefficient-element.result in
    let below : here.index < E.DIMENSION = omega arith in
    let within : here.index < length xs =
    omega (arith, g.met.EF.ExtensionField.dimension_law here.element) in
    record {
      values = draws-values sampled here.self drawn.new.self xs ys drawn.result E.DIMENSION
          here.index below within drawn.ensures.value drawn.ensures.state
          c.with_coefficient-element.ensures ∙ here.invariant.values;
      state = draws-state sampled here.self drawn.new.self E.DIMENSION here.index below
          drawn.ensures.state ∙ here.invariant.state;
    }
