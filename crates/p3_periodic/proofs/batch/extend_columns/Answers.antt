-- One transform of all rows: its columns are the columns' extensions.
use Rattle.std.proofs.Common.{◌≡◌, ◌+◌, ◌*◌, ◌^◌, ◌<◌, ◌≤◌, ℕ, length, get_or, arith, sym, ap}
use Rattle.std.proofs.Common.{ap₂, ◌∙◌, subst}
use Rattle.std.proofs.Math.Pow.{pow_mono}
use Rattle.std.proofs.lemmas.Nat.{one_shl, pow-add}
use Rattle.algebra.specs.Nested.{lists}
use Rattle.algebra.proofs.Lists.{length-tabulate}
use Rattle.p3_field_core.specs.Coset.{coset_point}
use Rattle.p3_dft.proofs.Batches.{whole_columns, held_by_new, held_by_values}
use Rattle.p3_dft.proofs.Columns.{Holds, length-held}
use Rattle.p3_periodic.specs.Batches.{column_at}
use Rattle.p3_periodic.proofs.Gathered.{extended_entry}
use Rattle.p3_periodic.proofs.batch.extend_columns.Goals as goal

pub new-matrix-requires-clause-whole_rows : goal.new-matrix-requires-clause-whole_rows
new-matrix-requires-clause-whole_rows g c =
    let k = c.args.log_period in
    let m = length c.args.places.now in
    let bound : k < 64 =
    omega (arith, g.met.F.TwoAdicField.two_adicity_law, c.requires.within_two_adicity) in
    whole_columns c.in_ok-values.values.len (2 ^ k) m
    (c.in_ok-values.ensures.len ∙ ap (λ n. n * m) (one_shl k 64 bound))

pub coset_lde_batch-requires-clause-power_of_two :
    goal.coset_lde_batch-requires-clause-power_of_two
coset_lde_batch-requires-clause-power_of_two g c =
    let k = c.args.log_period in
    let m = length c.args.places.now in
    let values = c.in_ok-values.values in
    let bound : k < 64 =
    omega (arith, g.met.F.TwoAdicField.two_adicity_law, c.requires.within_two_adicity) in
    let long : values.len ≡ 2 ^ k * m =
    c.in_ok-values.ensures.len ∙ ap (λ n. n * m) (one_shl k 64 bound) in
    let given : Holds c.new-matrix.result m (2 ^ k) values.items =
    held_by_new c.new-matrix.result m (2 ^ k) values.len values.items c.requires.some values.ok.0
    c.new-matrix.ensures.rows c.new-matrix.ensures.width long in
    (k, length-held g.F.Field.ops c.new-matrix.result m (2 ^ k) values.items given)

pub coset_lde_batch-requires-clause-within_two_adicity :
    goal.coset_lde_batch-requires-clause-within_two_adicity
coset_lde_batch-requires-clause-within_two_adicity g c =
    let k = c.args.log_period in
    let m = length c.args.places.now in
    let added = c.args.added_bits in
    let values = c.in_ok-values.values in
    let bound : k < 64 =
    omega (arith, g.met.F.TwoAdicField.two_adicity_law, c.requires.within_two_adicity) in
    let long : values.len ≡ 2 ^ k * m =
    c.in_ok-values.ensures.len ∙ ap (λ n. n * m) (one_shl k 64 bound) in
    let given : Holds c.new-matrix.result m (2 ^ k) values.items =
    held_by_new c.new-matrix.result m (2 ^ k) values.len values.items c.requires.some values.ok.0
    c.new-matrix.ensures.rows c.new-matrix.ensures.width long in
    let tall = length-held g.F.Field.ops c.new-matrix.result m (2 ^ k) values.items given in
    let Within : ℕ → Type 0 = λ n. n ≤ 2 ^ g.F.TwoAdicField.TWO_ADICITY in
    subst Within (pow-add 2 k added ∙ ap (λ n. n * 2 ^ added) (sym tall))
    (pow_mono c.requires.within_two_adicity)

pub returns-clause-len : goal.returns-clause-len
returns-clause-len g c =
    let k = c.args.log_period in
    let m = length c.args.places.now in
    let added = c.args.added_bits in
    let values = c.in_ok-values.values in
    let bound : k < 64 =
    omega (arith, g.met.F.TwoAdicField.two_adicity_law, c.requires.within_two_adicity) in
    let long : values.len ≡ 2 ^ k * m =
    c.in_ok-values.ensures.len ∙ ap (λ n. n * m) (one_shl k 64 bound) in
    let given : Holds c.new-matrix.result m (2 ^ k) values.items =
    held_by_new c.new-matrix.result m (2 ^ k) values.len values.items c.requires.some values.ok.0
    c.new-matrix.ensures.rows c.new-matrix.ensures.width long in
    let tall = length-held g.F.Field.ops c.new-matrix.result m (2 ^ k) values.items given in
    let known = c.in_ok-extended.ensures k tall in
    c.into_values.ensures.len
    ∙ ap₂ (λ n width. n * width)
    (known.height ∙ length-tabulate (2 ^ (k + added))
    (coset_point g.F.Field.ops (g.F.TwoAdicField.root (k + added)) c.args.shift))
    (known.width ∙ c.new-matrix.ensures.width)

pub returns-clause-entries : goal.returns-clause-entries
returns-clause-entries g c i place b l =
    let F = g.F.Field.ops in
    let root = g.F.TwoAdicField.root in
    let k = c.args.log_period in
    let m = length c.args.places.now in
    let added = c.args.added_bits in
    let cs = lists c.args.columns.now in
    let values = c.in_ok-values.values in
    let extended = c.in_ok-extended.extended in
    let es = c.into_values.result in
    let bound : k < 64 =
    omega (arith, g.met.F.TwoAdicField.two_adicity_law, c.requires.within_two_adicity) in
    let long : values.len ≡ 2 ^ k * m =
    c.in_ok-values.ensures.len ∙ ap (λ n. n * m) (one_shl k 64 bound) in
    let given : Holds c.new-matrix.result m (2 ^ k) values.items =
    held_by_new c.new-matrix.result m (2 ^ k) values.len values.items c.requires.some values.ok.0
    c.new-matrix.ensures.rows c.new-matrix.ensures.width long in
    let tall = length-held F c.new-matrix.result m (2 ^ k) values.items given in
    let known = c.in_ok-extended.ensures k tall in
    let high = known.height ∙ length-tabulate (2 ^ (k + added))
    (coset_point F (root (k + added)) c.args.shift) in
    let wide = known.width ∙ c.new-matrix.ensures.width in
    let made : Holds extended m (2 ^ (k + added)) es.items =
    held_by_values extended m (2 ^ (k + added)) es.len es.items c.requires.some es.ok.0 (sym wide)
    (sym high) c.into_values.ensures.rows c.into_values.ensures.len in
    extended_entry F root c.args.shift k added m c.new-matrix.result extended values.items es.items
    place i (column_at cs (get_or c.args.places.now place 0)) given made known l b
    (c.requires.period place 0 l)
    (λ r below. c.in_ok-values.ensures.entries r place (omega (arith, below, one_shl k 64 bound)) l)
