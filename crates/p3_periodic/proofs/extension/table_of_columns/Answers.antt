use Rattle.std.proofs.Common.{◌≡◌, ℕ, ◌+◌, ◌-◌, ◌*◌, ◌%◌, ◌^◌, ◌<◌, ◌≤◌, List, length, arith, sym, ap}
use Rattle.std.proofs.Common.{◌∙◌, subst}
use Rattle.std.specs.Int.{IsPowerOfTwo}
use Rattle.std.specs.declared.vec.Vec.{Vec}
use Rattle.std.specs.declared.alloc.Global.{Global}
use Rattle.algebra.specs.Nested.{lists}
use Rattle.p3_field_core.specs.Coset.{coset_point}
use Rattle.p3_matrix.specs.Rows.{rows_of}
use Rattle.p3_dft.proofs.Batches.{whole_columns}
use Rattle.p3_periodic.specs.Batches.{column_at}
use Rattle.p3_periodic.specs.Columns.{IsPeriod, greatest_period}
use Rattle.p3_periodic.specs.Tables.{AreTabulated, table_entry}
use Rattle.p3_periodic.specs.Values.{IsColumnValue}
use Rattle.p3_periodic.specs.Views.{columns_of}
use Rattle.p3_periodic.specs.Writes.{IsMet}
use Rattle.p3_periodic.proofs.Greatest.{greatest_is_period}
use Rattle.p3_periodic.proofs.Periods.{exponent_within}
use Rattle.p3_periodic.proofs.Rows.{columns_tabulated}
use Rattle.p3_periodic.proofs.extension.table_of_columns.Goals as goal

pub log2_strict_usize-log_greatest-requires : goal.log2_strict_usize-log_greatest-requires
log2_strict_usize-log_greatest-requires g c =
    let cs = columns_of c.args.columns.now in
    let period : IsPeriod (2 ^ c.args.log_rows) (greatest_period cs) =
    greatest_is_period (2 ^ c.args.log_rows) cs c.in-Some.ensures.0 c.requires.periods in
    let Power : ℕ → Type 0 = λ m. IsPowerOfTwo m in
    record { power_of_two = subst Power (sym c.in-Some.ensures.1) period.power_of_two }

pub table_values-requires-clause-period : goal.table_values-requires-clause-period
table_values-requires-clause-period g c =
    let cs = columns_of c.args.columns.now in
    let period : IsPeriod (2 ^ c.args.log_rows) (greatest_period cs) =
    greatest_is_period (2 ^ c.args.log_rows) cs c.in-Some.ensures.0 c.requires.periods in
    exponent_within c.args.log_rows c.log2_strict_usize-log_greatest.result
    (ap (λ p. 2 ^ c.args.log_rows % p)
    (c.log2_strict_usize-log_greatest.ensures.power ∙ c.in-Some.ensures.1) ∙ period.divides)

pub new-requires-clause-has_columns : goal.new-requires-clause-has_columns
new-requires-clause-has_columns g c = omega (arith, c.len-width.ensures, c.in-Some.ensures.0)

pub new-requires-clause-whole_rows : goal.new-requires-clause-whole_rows
new-requires-clause-whole_rows g c =
    let tall = c.log2_strict_usize-log_greatest.result
    + (c.args.lde_domain.now.log_size - c.args.log_rows) in
    whole_columns c.in_ok-values.values.len (2 ^ tall) c.len-width.result
    (c.in_ok-values.ensures.len
    ∙ ap (λ m. 2 ^ tall * m) (ap length c.as_slice.ensures ∙ sym c.len-width.ensures))

pub returns : goal.returns
returns g c =
    let A = g.row.F.Denot in
    let F = g.F.Field.ops in
    let root = g.F.TwoAdicField.root in
    let n = c.args.log_rows in
    let size = c.args.lde_domain.now.log_size in
    let shift = c.args.lde_domain.now.shift in
    let added = size - n in
    let q = c.log2_strict_usize-log_greatest.result in
    let cs = columns_of c.args.columns.now in
    let values = c.in_ok-values.values in
    let whole : n + added ≡ size = omega (arith, c.requires.larger) in
    let period : IsPeriod (2 ^ n) (greatest_period cs) =
    greatest_is_period (2 ^ n) cs c.in-Some.ensures.0 c.requires.periods in
    let greatest : 2 ^ q ≡ greatest_period cs =
    c.log2_strict_usize-log_greatest.ensures.power ∙ c.in-Some.ensures.1 in
    let short : q ≤ n = exponent_within n q (ap (λ p. 2 ^ n % p) greatest ∙ period.divides) in
    let long : length values.items ≡ 2 ^ (q + added) * length cs =
    sym values.ok.0 ∙ c.in_ok-values.ensures.len
    ∙ ap (λ (vs : List (Vec A Global)). 2 ^ (q + added) * length vs) c.as_slice.ensures in
    let Met : List (Vec A Global) → Type 0 = λ vs. (i j k : ℕ) → i < 2 ^ (q + added) → j < length vs
    → k ≤ q → length (column_at (lists vs) j) ≡ 2 ^ k
    → IsMet (table_entry F root n (coset_point F (root size) shift) (lists vs)) values.items
    (i * length vs + j) in
    let Tabulated : List (List A) → Type 0 = λ rs. AreTabulated cs (2 ^ added)
    (λ index. IsColumnValue F root n (coset_point F (root size) shift index)) rs in
    subst Tabulated
    (sym (c.new-2.ensures ∙ c.new.ensures.rows
    ∙ ap (λ m. rows_of m values.items) c.len-width.ensures))
    (columns_tabulated F g.met.F.Field.laws g.F.TwoAdicField.TWO_ADICITY root
    g.met.F.TwoAdicField.roots_law n added size shift whole
    c.args.lde_domain.now.within_two_adicity g.met.F.TwoAdicField.two_adicity_law cs q values.items
    short greatest c.in-Some.ensures.0 long
    (subst Met c.as_slice.ensures c.in_ok-values.ensures.entries))
