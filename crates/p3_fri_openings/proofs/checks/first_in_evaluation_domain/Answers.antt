use Rattle.p3_fri_openings.proofs.First.{first_at, one_more, to_the_end}
use Rattle.p3_fri_relation.specs.Setting.{Fields}
use Rattle.p3_fri_openings.specs.Refusals.{IsOn, IsOff}
use Rattle.p3_fri_openings.proofs.checks.first_in_evaluation_domain.Goals as goal

pub returns-then-is_in_evaluation_domain : goal.returns-then-is_in_evaluation_domain
returns-then-is_in_evaluation_domain g c =
    let f : Fields g.row.F.Denot g.row.EF.Denot = record {
      base = g.F.Field.ops;
      ext = g.EF.Field.ops;
      lift = g.EF.ExtensionField.lift;
      coefficients = g.EF.ExtensionField.coefficients;
      degree = g.EF.ExtensionField.DIMENSION;
      root = g.F.TwoAdicField.root;
      two_adicity = g.F.TwoAdicField.TWO_ADICITY;
      shift = g.F.Field.GENERATOR;
    } in
    first_at (IsOff f c.args.log_height) (IsOn f c.args.log_height) c.args.points.now c.loop-index.index
    c.index-points-index.result c.loop-index-test.true c.index-points-index.is
    c.loop-index.invariant (c.is_in_evaluation_domain.ensures.0 c.if-is_in_evaluation_domain.true)

pub loop-index-preserved : goal.loop-index-preserved
loop-index-preserved g c =
    let f : Fields g.row.F.Denot g.row.EF.Denot = record {
      base = g.F.Field.ops;
      ext = g.EF.Field.ops;
      lift = g.EF.ExtensionField.lift;
      coefficients = g.EF.ExtensionField.coefficients;
      degree = g.EF.ExtensionField.DIMENSION;
      root = g.F.TwoAdicField.root;
      two_adicity = g.F.TwoAdicField.TWO_ADICITY;
      shift = g.F.Field.GENERATOR;
    } in
    let off : IsOff f c.args.log_height c.index-points-index.result = λ i l e.
    let on = c.is_in_evaluation_domain.ensures.1 (i, l, e) in
    let no = c.if-is_in_evaluation_domain.false in cc in
    one_more (IsOff f c.args.log_height) c.args.points.now c.loop-index.index
    c.index-points-index.result c.loop-index-test.true c.index-points-index.is
    c.loop-index.invariant off

pub returns : goal.returns
returns g c =
    let f : Fields g.row.F.Denot g.row.EF.Denot = record {
      base = g.F.Field.ops;
      ext = g.EF.Field.ops;
      lift = g.EF.ExtensionField.lift;
      coefficients = g.EF.ExtensionField.coefficients;
      degree = g.EF.ExtensionField.DIMENSION;
      root = g.F.TwoAdicField.root;
      two_adicity = g.F.TwoAdicField.TWO_ADICITY;
      shift = g.F.Field.GENERATOR;
    } in
    to_the_end (IsOff f c.args.log_height) c.args.points.now c.loop-index.index
    c.loop-index-test.false c.loop-index.invariant
