use Rattle.p3_fri_openings.proofs.First.{one_more, to_the_end}
use Rattle.p3_fri_relation.specs.Setting.{Fields}
use Rattle.p3_fri_openings.specs.Refusals.{ArePointsOff}
use Rattle.p3_fri_openings.proofs.Refusals.{refused_here}
use Rattle.p3_fri_openings.proofs.checks.check_points.Goals as goal

pub returns-in-Err : goal.returns-in-Err
returns-in-Err g c =
    let f : Fields g.row.F.Denot g.row.EF.Denot = record {
      base = g.F.Field.ops;
      ext = g.EF.Field.ops;
      lift = g.EF.ExtensionField.lift;
      coefficients = g.EF.ExtensionField.coefficients;
      degree = g.EF.ExtensionField.DIMENSION;
      root = g.F.TwoAdicField.root;
      two_adicity = g.F.TwoAdicField.TWO_ADICITY;
      shift = g.F.Field.GENERATOR;
    } in
    refused_here f c.args.rounds.now c.loop-index.index c.index-rounds-index.result c.in-Err.refusal
    c.loop-index-test.true c.index-rounds-index.is c.loop-index.invariant c.in-Err.ensures

pub loop-index-preserved : goal.loop-index-preserved
loop-index-preserved g c =
    let f : Fields g.row.F.Denot g.row.EF.Denot = record {
      base = g.F.Field.ops;
      ext = g.EF.Field.ops;
      lift = g.EF.ExtensionField.lift;
      coefficients = g.EF.ExtensionField.coefficients;
      degree = g.EF.ExtensionField.DIMENSION;
      root = g.F.TwoAdicField.root;
      two_adicity = g.F.TwoAdicField.TWO_ADICITY;
      shift = g.F.Field.GENERATOR;
    } in
    one_more (ArePointsOff f) c.args.rounds.now c.loop-index.index c.index-rounds-index.result
    c.loop-index-test.true c.index-rounds-index.is c.loop-index.invariant c.in_default.ensures

pub returns : goal.returns
returns g c =
    let f : Fields g.row.F.Denot g.row.EF.Denot = record {
      base = g.F.Field.ops;
      ext = g.EF.Field.ops;
      lift = g.EF.ExtensionField.lift;
      coefficients = g.EF.ExtensionField.coefficients;
      degree = g.EF.ExtensionField.DIMENSION;
      root = g.F.TwoAdicField.root;
      two_adicity = g.F.TwoAdicField.TWO_ADICITY;
      shift = g.F.Field.GENERATOR;
    } in
    to_the_end (ArePointsOff f) c.args.rounds.now c.loop-index.index
    c.loop-index-test.false c.loop-index.invariant
