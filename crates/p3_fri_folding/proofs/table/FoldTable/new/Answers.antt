use Rattle.std.proofs.Common.{◌≡◌, ◌-◌, suc, arith}
use Rattle.p3_fri_folding.specs.Rows.{AreFirstHalfInverses}
use Rattle.p3_fri_folding.proofs.table.FoldTable.new.Goals as goal

pub invariant_of-result : goal.invariant_of-result
invariant_of-result g c =
    let a = c.args.log_arity - 1 in
    let size : c.args.log_arity ≡ suc a = omega (arith, c.requires.positive) in
    let tables : AreFirstHalfInverses g.F.Field.ops g.F.TwoAdicField.root c.args.log_height a c.in_ok-half_inverses.field-0.items = c.in_ok-half_inverses.ensures a size in
    record {
      positive = c.requires.positive;
      within_two_adicity = c.requires.within_two_adicity;
      rounds = c.new.ensures.rounds;
      count = tables.count;
      first_pairs = tables.each;
      inverse = c.root_inverse.ensures;
    }
