use Rattle.std.proofs.Common.{Contains, sym, subst, ◌∙◌}
use Rattle.std.proofs.lemmas.Bool.{true≢false}
use Rattle.p3_fri_relation.specs.Setting.{Fields}
use Rattle.p3_fri_openings.specs.Refusals.{IsOff}
use Rattle.p3_fri_openings.specs.Denominators.{points_of_table}
use Rattle.p3_fri_openings.proofs.Log2.{log2_is}
use Rattle.p3_fri_openings.proofs.AskedPoints.{tallest_is, tallest_served}
use Rattle.p3_fri_openings.proofs.RoundTables.{table_more, entry_added, entries_kept}
use Rattle.p3_fri_openings.proofs.all_points.add_point.Goals as goal

pub denominators_of_point-requires : goal.denominators_of_point-requires
denominators_of_point-requires g c =
    let f : Fields g.row.F.Denot g.row.EF.Denot = record {
      base = g.F.Field.ops;
      ext = g.EF.Field.ops;
      lift = g.EF.ExtensionField.lift;
      coefficients = g.EF.ExtensionField.coefficients;
      degree = g.EF.ExtensionField.DIMENSION;
      root = g.F.TwoAdicField.root;
      two_adicity = g.F.TwoAdicField.TWO_ADICITY;
      shift = g.F.Field.GENERATOR;
    } in
    let asked = c.args.asked.now in
    let z = c.args.point in
    let h = c.tallest_at-height.result in
    let tall = tallest_is f c.args.coset.now asked z h c.requires.asked c.requires.point
    c.tallest_at-height.ensures.none_above c.tallest_at-height.ensures.asked_there in
    let served = tallest_served f c.args.coset.now asked z h c.requires.asked tall in
    record {
      power_of_two = (served.log_height, served.height);
      off = subst (λ k. IsOff f k z) (log2_is h served.log_height (sym served.height)) served.off;
      coset = served.start;
    }

pub returns : goal.returns
returns g c =
    let f : Fields g.row.F.Denot g.row.EF.Denot = record {
      base = g.F.Field.ops;
      ext = g.EF.Field.ops;
      lift = g.EF.ExtensionField.lift;
      coefficients = g.EF.ExtensionField.coefficients;
      degree = g.EF.ExtensionField.DIMENSION;
      root = g.F.TwoAdicField.root;
      two_adicity = g.F.TwoAdicField.TWO_ADICITY;
      shift = g.F.Field.GENERATOR;
    } in
    let asked = c.args.asked.now in
    let z = c.args.point in
    let h = c.tallest_at-height.result in
    let old = c.args.table.now.items in
    let news = c.push.new.self.items in
    let entry = c.in_ok-denominators_of_point.field-0 in
    let known = c.in_ok-denominators_of_point.ensures in
    let tall = tallest_is f c.args.coset.now asked z h c.requires.asked c.requires.point
    c.tallest_at-height.ensures.none_above c.tallest_at-height.ensures.asked_there in
    let served = tallest_served f c.args.coset.now asked z h c.requires.asked tall in
    let none : Contains (points_of_table old) z → ⊥ = λ there.
    true≢false (sym (c.has_entry.ensures.1
    (subst (λ es. Contains (points_of_table es) z) (sym c.deref.ensures.value) there))
    ∙ c.if-has_entry.false) in
    record {
      table = table_more f asked c.args.coset.now old news entry z h c.requires.table none
          tall served known.point known.inverses c.in_ok-push.ensures.items;
      point = entry_added old news entry z c.in_ok-push.ensures.items known.point;
      others = entries_kept old news entry c.in_ok-push.ensures.items;
    }
