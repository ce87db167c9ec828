-- The coefficients, each times a power of the shift, with zeros below them, and their values at the
-- powers of the
-- greater root.
use Rattle.std.proofs.Common.{◌≡◌, ◌≤◌, ◌<◌, ◌+◌, ◌-◌, ◌*◌, ◌^◌, ◌++◌, take, replicate, ℕ}
use Rattle.std.proofs.Common.{length, get_or, arith, ap, subst, sym, ◌∙◌}
use Rattle.algebra.specs.Field.{pow}
use Rattle.p3_field_core.specs.Coset.{coset_point, coset_points}
use Rattle.p3_field_core.proofs.IndexPowers.{exponents_agree}
use Rattle.p3_dft.specs.Evaluations.{subgroup_points, AreExtensions}
use Rattle.p3_dft.proofs.Turns.{root_turn}
use Rattle.p3_dft.proofs.Columns.{Holds}
use Rattle.p3_dft.proofs.Extensions.{extended_within, extended_size, size_of_product, get_or-filled}
use Rattle.p3_dft.proofs.Extensions.{padded_column, extensions_by_entries}
use Rattle.p3_dft.proofs.Batches.{whole_columns, held_by_values, held_by_new, values_at}
use Rattle.p3_dft.proofs.radix_2_dit.Radix2DitTwoAdicSubgroupDft.coset_lde_batch.Goals as goal

pub overflow_add-log_extended : goal.overflow_add-log_extended
overflow_add-log_extended g c =
    let k = c.log2_strict_usize-log_height in
    omega (arith, g.met.F.TwoAdicField.two_adicity_law, extended_within k.result c.args.added_bits g.F.TwoAdicField.TWO_ADICITY _ (k.ensures.power ∙ c.height.ensures) c.requires.within_two_adicity)

pub overflow_shl-log_extended : goal.overflow_shl-log_extended
overflow_shl-log_extended g c =
    let k = c.log2_strict_usize-log_height in
    omega (arith, g.met.F.TwoAdicField.two_adicity_law, extended_within k.result c.args.added_bits g.F.TwoAdicField.TWO_ADICITY _ (k.ensures.power ∙ c.height.ensures) c.requires.within_two_adicity)

pub interpolate-requires-clause-within_two_adicity : goal.interpolate-requires-clause-within_two_adicity
interpolate-requires-clause-within_two_adicity g c =
    let k = c.log2_strict_usize-log_height in
    omega (arith, extended_within k.result c.args.added_bits g.F.TwoAdicField.TWO_ADICITY _ (k.ensures.power ∙ c.height.ensures) c.requires.within_two_adicity)

pub two_adic_generator-root-requires : goal.two_adic_generator-root-requires
two_adic_generator-root-requires g c =
    let k = c.log2_strict_usize-log_height in
    record { within_two_adicity = extended_within k.result c.args.added_bits g.F.TwoAdicField.TWO_ADICITY _ (k.ensures.power ∙ c.height.ensures) c.requires.within_two_adicity }

pub transform-requires-clause-log_height : goal.transform-requires-clause-log_height
transform-requires-clause-log_height g c =
    let k = c.log2_strict_usize-log_height in
    omega (arith, g.met.F.TwoAdicField.two_adicity_law, extended_within k.result c.args.added_bits g.F.TwoAdicField.TWO_ADICITY _ (k.ensures.power ∙ c.height.ensures) c.requires.within_two_adicity)

pub transform-requires-clause-size : goal.transform-requires-clause-size
transform-requires-clause-size g c =
    let k = c.log2_strict_usize-log_height in
    let n = k.result + c.args.added_bits in
    let bound : n < 64 = omega (arith, g.met.F.TwoAdicField.two_adicity_law, extended_within k.result c.args.added_bits g.F.TwoAdicField.TWO_ADICITY _ (k.ensures.power ∙ c.height.ensures) c.requires.within_two_adicity) in
    c.in_ok-resize.ensures.len ∙ size_of_product n c.width-width.result c.in-Some.size bound c.in-Some.ensures.1

pub transform-requires-clause-half_turn : goal.transform-requires-clause-half_turn
transform-requires-clause-half_turn g c some =
    let F = g.F.Field.ops in
    let field = g.F.TwoAdicField in
    let k = c.log2_strict_usize-log_height in
    let n = k.result + c.args.added_bits in
    ap (λ x. pow F x (2 ^ (n - 1))) c.two_adic_generator-root.ensures
    ∙ root_turn F g.met.F.Field.laws field.TWO_ADICITY field.root g.met.F.TwoAdicField.roots_law n some
    (extended_within k.result c.args.added_bits field.TWO_ADICITY _ (k.ensures.power ∙ c.height.ensures) c.requires.within_two_adicity)

pub new-requires-clause-whole_rows : goal.new-requires-clause-whole_rows
new-requires-clause-whole_rows g c =
    let k = c.log2_strict_usize-log_height in
    let n = k.result + c.args.added_bits in
    let bound : n < 64 = omega (arith, g.met.F.TwoAdicField.two_adicity_law, extended_within k.result c.args.added_bits g.F.TwoAdicField.TWO_ADICITY _ (k.ensures.power ∙ c.height.ensures) c.requires.within_two_adicity) in
    whole_columns c.in_ok-extended.extended.len (2 ^ n) c.width-width.result
    (c.in_ok-extended.ensures.len ∙ c.in_ok-resize.ensures.len ∙ size_of_product n c.width-width.result c.in-Some.size bound c.in-Some.ensures.1)

pub returns : goal.returns
returns g c k size =
    let F = g.F.Field.ops in
    let field = g.F.TwoAdicField in
    let root = field.root in
    let log = c.log2_strict_usize-log_height in
    let n = log.result + c.args.added_bits in
    let width = c.width-width.result in
    let some = c.width-width.ensures.some in
    let shift = c.args.shift in
    let given = c.args.values in
    let values = c.into_values in
    let ys = values.result.items in
    let coefficients = c.in_ok-coefficients in
    let cs = coefficients.coefficients.items in
    let filled = c.in_ok-resize.ensures in
    let ps = c.resize.new.self in
    let made = c.in_ok-extended in
    let es = made.extended in
    let height = log.ensures.power ∙ c.height.ensures in
    let within = extended_within log.result c.args.added_bits field.TWO_ADICITY _ height c.requires.within_two_adicity in
    let bound : n < 64 = omega (arith, g.met.F.TwoAdicField.two_adicity_law, within) in
    let product = size_of_product n width c.in-Some.size bound c.in-Some.ensures.1 in
    let Answer : ℕ → Type 0 = λ m. AreExtensions F (subgroup_points F (root m) m) (coset_points F (root (m + c.args.added_bits)) shift (m + c.args.added_bits)) given c.new.result in
    let held : Holds given width (2 ^ log.result) ys = held_by_values given width (2 ^ log.result) values.result.len ys some values.result.ok.0 c.width-width.ensures.columns height values.ensures.rows values.ensures.len in
    let all : values.result.len ≡ 2 ^ log.result * width = values.result.ok.0 ∙ held.size in
    let count : length cs ≡ 2 ^ log.result * width = sym coefficients.coefficients.ok.0 ∙ coefficients.ensures.len ∙ all in
    let room : length cs ≤ c.in-Some.size = omega (arith, count, product, extended_size log.result c.args.added_bits width) in
    let same : (m : ℕ) → get_or ps.items m F.zero ≡ get_or cs m F.zero = λ m.
    ap (λ xs. get_or xs m F.zero) filled.items
    ∙ ap (λ z. get_or (take c.in-Some.size cs ++ replicate (c.in-Some.size - coefficients.coefficients.len) z) m F.zero) (c.ZERO.ensures ∙ g.met.F.Field.zero_law)
    ∙ get_or-filled cs c.in-Some.size (c.in-Some.size - coefficients.coefficients.len) m F.zero room in
    subst Answer (exponents_agree log.result k (height ∙ size))
    (extensions_by_entries F given c.new.result width (2 ^ log.result) (2 ^ n) ys es.items (subgroup_points F (root log.result) log.result) (coset_point F (root n) shift) held
    (held_by_new c.new.result width (2 ^ n) es.len es.items some es.ok.0 c.new.ensures.rows c.new.ensures.width (made.ensures.len ∙ filled.len ∙ product))
    (λ i j l q.
    values_at F c.two_adic_generator-root.result (root n) width (2 ^ n) _ es.items c.two_adic_generator-root.ensures made.ensures.values i j l q
    ∙ padded_column F g.met.F.Field.laws.ring log.result c.args.added_bits width cs ps.items count same j (pow F (root n) i)
    ∙ coefficients.ensures.coefficients j (pow F (root n) i) q))
