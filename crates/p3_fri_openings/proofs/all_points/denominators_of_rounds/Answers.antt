use Rattle.std.proofs.Common.{All, Contains, sym, subst, ◌∙◌}
use Rattle.p3_fri_relation.specs.Setting.{Fields}
use Rattle.p3_fri_openings.specs.Points.{asked_points}
use Rattle.p3_fri_openings.specs.Denominators.{HasDenominators, IsTableFor, points_of_table}
use Rattle.p3_fri_openings.proofs.AskedPoints.{all_served}
use Rattle.p3_fri_openings.proofs.RoundTables.{all_covered, none_larger}
use Rattle.p3_fri_openings.proofs.all_points.denominators_of_rounds.Goals as goal

pub entries_for-requires : goal.entries_for-requires
entries_for-requires g c =
    let f : Fields g.row.F.Denot g.row.EF.Denot = record {
      base = g.F.Field.ops;
      ext = g.EF.Field.ops;
      lift = g.EF.ExtensionField.lift;
      coefficients = g.EF.ExtensionField.coefficients;
      degree = g.EF.ExtensionField.DIMENSION;
      root = g.F.TwoAdicField.root;
      two_adicity = g.F.TwoAdicField.TWO_ADICITY;
      shift = g.F.Field.GENERATOR;
    } in
    subst (λ ps. All (HasDenominators f c.deref.result.now) ps)
    (sym (c.deref-2.ensures.value ∙ c.in_ok-asked.ensures))
    (subst (λ xs. All (HasDenominators f xs) (asked_points c.args.rounds.now))
    (sym c.deref.ensures.value)
    (all_served f c.in_ok-coset.coset.items c.args.rounds.now c.requires.rounds c.requires.off
    c.in_ok-coset.ensures.holds))

pub returns-clause-inverses : goal.returns-clause-inverses
returns-clause-inverses g c = c.in_ok-entries.ensures.table.inverses

pub returns-clause-covered : goal.returns-clause-covered
returns-clause-covered g c =
    let f : Fields g.row.F.Denot g.row.EF.Denot = record {
      base = g.F.Field.ops;
      ext = g.EF.Field.ops;
      lift = g.EF.ExtensionField.lift;
      coefficients = g.EF.ExtensionField.coefficients;
      degree = g.EF.ExtensionField.DIMENSION;
      root = g.F.TwoAdicField.root;
      two_adicity = g.F.TwoAdicField.TWO_ADICITY;
      shift = g.F.Field.GENERATOR;
    } in
    let e = c.deref-2.ensures.value ∙ c.in_ok-asked.ensures in
    let table = c.in_ok-entries.entries.items in
    all_covered f c.args.rounds.now table
    (subst (λ ps. IsTableFor f ps table) e c.in_ok-entries.ensures.table)
    (subst (λ ps. All (λ a. Contains (points_of_table table) a.point) ps) e
    c.in_ok-entries.ensures.each_point)

pub returns-clause-each_point_once : goal.returns-clause-each_point_once
returns-clause-each_point_once g c = c.in_ok-entries.ensures.table.distinct

pub returns-clause-none_larger : goal.returns-clause-none_larger
returns-clause-none_larger g c =
    let f : Fields g.row.F.Denot g.row.EF.Denot = record {
      base = g.F.Field.ops;
      ext = g.EF.Field.ops;
      lift = g.EF.ExtensionField.lift;
      coefficients = g.EF.ExtensionField.coefficients;
      degree = g.EF.ExtensionField.DIMENSION;
      root = g.F.TwoAdicField.root;
      two_adicity = g.F.TwoAdicField.TWO_ADICITY;
      shift = g.F.Field.GENERATOR;
    } in
    let e = c.deref-2.ensures.value ∙ c.in_ok-asked.ensures in
    let table = c.in_ok-entries.entries.items in
    none_larger f c.args.rounds.now table
    (subst (λ ps. IsTableFor f ps table) e c.in_ok-entries.ensures.table)
