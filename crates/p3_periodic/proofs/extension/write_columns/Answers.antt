-- The extended columns go to their places in each row.
use Rattle.std.proofs.Common.{◌≡◌, ◌+◌, ◌-◌, ◌*◌, ◌%◌, ◌^◌, ◌<◌, ◌≤◌, ℕ, List, length, get_or, arith}
use Rattle.std.proofs.Common.{sym, ap, ◌∙◌, subst}
use Rattle.std.proofs.lemmas.Nat.{one_shl}
use Rattle.algebra.specs.Field.{pow}
use Rattle.algebra.specs.Nested.{lists}
use Rattle.algebra.specs.Polynomial.{val}
use Rattle.algebra.specs.Periodic.{column_polynomial}
use Rattle.algebra.proofs.Nested.{length-lists}
use Rattle.p3_field_core.specs.Coset.{coset_point}
use Rattle.p3_periodic.specs.Batches.{column_at, ArePlaces}
use Rattle.p3_periodic.specs.Tables.{table_entry}
use Rattle.p3_periodic.proofs.Tabulated.{columns_belong, columns_met}
use Rattle.p3_periodic.proofs.extension.write_columns.Goals as goal

pub returns : goal.returns
returns g c =
    let A = g.row.F.Denot in
    let F = g.F.Field.ops in
    let L = g.met.F.Field.laws in
    let root = g.F.TwoAdicField.root in
    let top = g.F.TwoAdicField.TWO_ADICITY in
    let W = g.met.F.TwoAdicField.roots_law in
    let n = c.args.counts.log_rows in
    let k = c.args.counts.log_period in
    let size = c.args.lde_domain.now.log_size in
    let shift = c.args.lde_domain.now.shift in
    let added = c.log_size.result - n in
    let power = c.shift_to_period-shift.result in
    let cs = lists c.args.columns.now in
    let width = length c.args.columns.now in
    let wide : width ≡ length cs = sym (length-lists c.args.columns.now) in
    let bounded : top < 64 = g.met.F.TwoAdicField.two_adicity_law in
    let within : size ≤ top = c.args.lde_domain.now.within_two_adicity in
    let whole : n + added ≡ size = omega (arith, c.log_size.ensures, c.requires.larger) in
    let few : k + added < 64 = omega (arith, bounded, within, whole, c.requires.period) in
    let same = c.deref.ensures.value ∙ sym c.deref-2.ensures.value in
    let places = c.deref-2.result.now in
    let values = c.deref-3.result.now in
    let made = c.in_ok-values.values in
    let OfPeriod : ℕ → Type 0 = λ p. ArePlaces cs width p c.in_ok-places.places.items in
    let Found : List ℕ → Type 0 = λ ps. ArePlaces cs width (2 ^ k) ps in
    let found : ArePlaces cs width (2 ^ k) places = subst Found (sym c.deref-2.ensures.value)
    (subst OfPeriod (one_shl k 64 (omega (arith, few))) c.in_ok-places.ensures) in
    let Known : List ℕ → List A → Type 0 = λ ps vs. (i c : ℕ) → i < 2 ^ (k + added) → c < length ps
    → get_or vs (i * length ps + c) F.zero
    ≡ val F (column_polynomial F root k (column_at cs (get_or ps c 0)))
    (coset_point F (root (k + added)) power i) in
    let OfPlaces : List ℕ → Type 0 = λ ps. Known ps values in
    let OfValues : List A → Type 0 = λ vs. Known c.deref.result.now vs in
    let known : Known places values =
    subst OfPlaces same (subst OfValues (sym c.deref-3.ensures.value) c.in_ok-values.ensures.entries) in
    let long : length values ≡ 2 ^ (k + added) * length places =
    ap length c.deref-3.ensures.value ∙ sym made.ok.0 ∙ c.in_ok-values.ensures.len
    ∙ ap (λ (ps : List ℕ). 2 ^ (k + added) * length ps) same in
    let moved : power ≡ pow F shift (2 ^ (n - k)) = c.shift_to_period-shift.ensures in
    let target = table_entry F root n (coset_point F (root size) shift) cs in
    columns_met F L top root W n added size shift whole within cs width wide bounded c.args.counts.height
    (2 ^ k) places c.args.table.now c.write_rows.new.table found
    (c.write_rows.ensures target
    (λ i _. columns_belong F L top root W n added size shift whole within cs width wide bounded k
    (1 * 2 ^ (k + added) % 2 ^ 64) power places values c.requires.period moved
    (one_shl (k + added) 64 few) found long known i))
