use Rattle.std.proofs.Common.{◌≡◌, ◌+◌, ◌-◌, ◌*◌, length, get_or, arith, sym, ap, ◌∙◌}
use Rattle.std.proofs.lemmas.List.{with_items_is}
use Rattle.algebra.specs.Nested.{lists}
use Rattle.algebra.proofs.Nested.{length-lists}
use Rattle.p3_periodic.proofs.Tabulated.{columns_one_more}
use Rattle.p3_periodic.proofs.extension.table_values.Goals as goal

pub loop-log_period-preserved : goal.loop-log_period-preserved
loop-log_period-preserved g c =
    let here = c.loop-log_period in
    let n = c.args.log_rows in
    let size = c.args.lde_domain.now.log_size in
    let width = length c.args.columns.now in
    let new = c.write_columns.new.table in
    let same_len : length new ≡ here.table.len =
    omega (arith, c.write_columns.auto.table, c.deref_mut.ensures.len) in
    let made = with_items_is here.table new same_len in
    let whole : n + (size - n) ≡ size = omega (arith, c.requires.larger) in
    record {
      len = ap length made ∙ c.write_columns.auto.table ∙ ap length c.deref_mut.ensures.value
          ∙ here.invariant.len;
      entries = λ i j k a b l s d.
          ap (λ xs. get_or xs (i * width + j) d) made
          ∙ columns_one_more g.F.Field.ops g.met.F.Field.laws g.F.TwoAdicField.TWO_ADICITY
          g.F.TwoAdicField.root g.met.F.TwoAdicField.roots_law n (size - n) size
          c.args.lde_domain.now.shift whole c.args.lde_domain.now.within_two_adicity
          (lists c.args.columns.now) width (sym (length-lists c.args.columns.now))
          g.met.F.TwoAdicField.two_adicity_law _ here.log_period here.table.items
          c.deref_mut.result.now new c.deref_mut.ensures.value here.invariant.entries
          c.in_ok-write_columns.ensures i j k a b l s d;
    }
