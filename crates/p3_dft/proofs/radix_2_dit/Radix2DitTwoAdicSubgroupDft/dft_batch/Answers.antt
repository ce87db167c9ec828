use Rattle.std.proofs.Common.{◌≡◌, ◌*◌, ◌^◌, ◌-◌, ℕ, length, ap, ap₂, subst, sym, ◌∙◌}
use Rattle.algebra.specs.Field.{pow}
use Rattle.p3_field_core.proofs.IndexPowers.{exponents_agree}
use Rattle.p3_matrix.specs.Matrix.{rows}
use Rattle.p3_dft.specs.Evaluations.{subgroup_points, AreEvaluations}
use Rattle.p3_dft.proofs.Turns.{root_turn}
use Rattle.p3_dft.proofs.Columns.{Holds, evaluations_by_entries}
use Rattle.p3_dft.proofs.Batches.{exponent_within, whole_columns, held_by_values, held_by_new}
use Rattle.p3_dft.proofs.Batches.{values_at}
use Rattle.p3_dft.proofs.radix_2_dit.Radix2DitTwoAdicSubgroupDft.dft_batch.Goals as goal

pub two_adic_generator-root-requires : goal.two_adic_generator-root-requires
two_adic_generator-root-requires g c = record { within_two_adicity = exponent_within c.log2_strict_usize-log_height.result g.F.TwoAdicField.TWO_ADICITY _ (c.log2_strict_usize-log_height.ensures.power ∙ c.height.ensures) c.requires.within_two_adicity }

pub transform-requires-clause-size : goal.transform-requires-clause-size
transform-requires-clause-size g c =
    let k = c.log2_strict_usize-log_height in
    c.into_values.ensures.len
    ∙ ap₂ (λ m n. m * n) (sym (k.ensures.power ∙ c.height.ensures)) (sym c.width-width.ensures.columns)

pub transform-requires-clause-half_turn : goal.transform-requires-clause-half_turn
transform-requires-clause-half_turn g c some =
    let F = g.F.Field.ops in
    let field = g.F.TwoAdicField in
    let k = c.log2_strict_usize-log_height in
    ap (λ x. pow F x (2 ^ (k.result - 1))) c.two_adic_generator-root.ensures
    ∙ root_turn F g.met.F.Field.laws field.TWO_ADICITY field.root g.met.F.TwoAdicField.roots_law k.result some
    (exponent_within k.result field.TWO_ADICITY _ (k.ensures.power ∙ c.height.ensures) c.requires.within_two_adicity)

pub new-requires-clause-whole_rows : goal.new-requires-clause-whole_rows
new-requires-clause-whole_rows g c =
    whole_columns c.in_ok-values.values.len (length (rows c.args.coefficients)) c.width-width.result
    (c.in_ok-values.ensures.len ∙ c.into_values.ensures.len ∙ ap (λ n. length (rows c.args.coefficients) * n) (sym c.width-width.ensures.columns))

pub returns : goal.returns
returns g c k size =
    let F = g.F.Field.ops in
    let root = g.F.TwoAdicField.root in
    let log = c.log2_strict_usize-log_height in
    let width = c.width-width in
    let given = c.args.coefficients in
    let values = c.into_values in
    let made = c.in_ok-values in
    let height = log.ensures.power ∙ c.height.ensures in
    let Result : ℕ → Type 0 = λ n. AreEvaluations F (subgroup_points F (root n) n) given c.new.result in
    let held : Holds given width.result (2 ^ log.result) values.result.items = held_by_values given width.result (2 ^ log.result) values.result.len values.result.items width.ensures.some values.result.ok.0 width.ensures.columns height values.ensures.rows values.ensures.len in
    let all : values.result.len ≡ 2 ^ log.result * width.result = values.result.ok.0 ∙ held.size in
    subst Result (exponents_agree log.result k (height ∙ size))
    (evaluations_by_entries F given c.new.result width.result (2 ^ log.result) values.result.items made.values.items (λ i. pow F (root log.result) i) held
    (held_by_new c.new.result width.result (2 ^ log.result) made.values.len made.values.items width.ensures.some made.values.ok.0 c.new.ensures.rows c.new.ensures.width (made.ensures.len ∙ all))
    (values_at F c.two_adic_generator-root.result (root log.result) width.result (2 ^ log.result) _ made.values.items c.two_adic_generator-root.ensures made.ensures.values))
