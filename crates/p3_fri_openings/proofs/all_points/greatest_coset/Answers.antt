use Rattle.std.proofs.Common.{◌≡◌, ap, ◌∙◌}
use Rattle.std.proofs.lemmas.Result.{IfOk-weaker}
use Rattle.p3_field_core.specs.Coset.{bit_reversed_points}
use Rattle.p3_fri_relation.specs.Setting.{Fields}
use Rattle.p3_fri_openings.specs.Denominators.{IsGreatestCoset}
use Rattle.p3_fri_openings.proofs.RoundTables.{holds_cosets}
use Rattle.p3_fri_openings.proofs.all_points.greatest_coset.Goals as goal

pub returns-clause-holds : goal.returns-clause-holds
returns-clause-holds g c =
    let f : Fields g.row.F.Denot g.row.EF.Denot = record {
      base = g.F.Field.ops;
      ext = g.EF.Field.ops;
      lift = g.EF.ExtensionField.lift;
      coefficients = g.EF.ExtensionField.coefficients;
      degree = g.EF.ExtensionField.DIMENSION;
      root = g.F.TwoAdicField.root;
      two_adicity = g.F.TwoAdicField.TWO_ADICITY;
      shift = g.F.Field.GENERATOR;
    } in
    let top = c.greatest_log_height.result in
    IfOk-weaker c.bit_reversed_points.result
    (λ points. points.items ≡ bit_reversed_points f.base (f.root top) c.GENERATOR.result top) _
    (λ points e. holds_cosets f g.met.F.Field.laws g.met.F.TwoAdicField.roots_law top
    c.greatest_log_height.ensures.within
    points.items (e ∙ ap (λ s. bit_reversed_points f.base (f.root top) s top) c.GENERATOR.ensures)
    c.args.rounds.now c.requires.rounds c.greatest_log_height.ensures.greatest)
    c.bit_reversed_points.ensures

pub returns-clause-greatest : goal.returns-clause-greatest
returns-clause-greatest g c =
    let f : Fields g.row.F.Denot g.row.EF.Denot = record {
      base = g.F.Field.ops;
      ext = g.EF.Field.ops;
      lift = g.EF.ExtensionField.lift;
      coefficients = g.EF.ExtensionField.coefficients;
      degree = g.EF.ExtensionField.DIMENSION;
      root = g.F.TwoAdicField.root;
      two_adicity = g.F.TwoAdicField.TWO_ADICITY;
      shift = g.F.Field.GENERATOR;
    } in
    let top = c.greatest_log_height.result in
    IfOk-weaker c.bit_reversed_points.result
    (λ points. points.items ≡ bit_reversed_points f.base (f.root top) c.GENERATOR.result top)
    (λ points. IsGreatestCoset f points.items c.args.rounds.now)
    (λ points e. record {
      log_size = top;
      greatest = c.greatest_log_height.ensures.greatest;
      attained = c.greatest_log_height.ensures.attained;
      points = e ∙ ap (λ s. bit_reversed_points f.base (f.root top) s top) c.GENERATOR.ensures;
    })
    c.bit_reversed_points.ensures
