use Rattle.std.proofs.Common.{◌≡◌, ◌+◌, ◌*◌, ◌^◌, ℕ, length, get_or, ap, subst, sym, ◌∙◌}
use Rattle.algebra.specs.Field.{pow}
use Rattle.algebra.specs.Polynomial.{val}
use Rattle.algebra.specs.Interpolation.{interpolant}
use Rattle.p3_field_core.specs.Coset.{coset_point, coset_points}
use Rattle.p3_field_core.proofs.IndexPowers.{exponents_agree}
use Rattle.p3_matrix.specs.Matrix.{rows}
use Rattle.p3_dft.specs.Evaluations.{subgroup_points, AreEvaluations}
use Rattle.p3_dft.specs.Strided.{strided}
use Rattle.p3_dft.proofs.Columns.{Holds, evaluations_by_entries}
use Rattle.p3_dft.proofs.Coefficients.{val-interpolant}
use Rattle.p3_dft.proofs.Batches.{exponent_within, whole_columns, held_by_values, held_by_new}
use Rattle.p3_dft.proofs.Batches.{shifted_back}
use Rattle.p3_dft.proofs.radix_2_dit.Radix2DitTwoAdicSubgroupDft.coset_idft_batch.Goals as goal

pub interpolate-requires-clause-within_two_adicity : goal.interpolate-requires-clause-within_two_adicity
interpolate-requires-clause-within_two_adicity g c = exponent_within c.log2_strict_usize-log_height.result g.F.TwoAdicField.TWO_ADICITY _ (c.log2_strict_usize-log_height.ensures.power ∙ c.height.ensures) c.requires.within_two_adicity

pub new-requires-clause-whole_rows : goal.new-requires-clause-whole_rows
new-requires-clause-whole_rows g c =
    whole_columns c.in_ok-coefficients.coefficients.len (length (rows c.args.values)) c.width-width.result
    (c.in_ok-coefficients.ensures.len ∙ c.into_values.ensures.len ∙ ap (λ n. length (rows c.args.values) * n) (sym c.width-width.ensures.columns))

pub returns : goal.returns
returns g c k size =
    let F = g.F.Field.ops in
    let L = g.met.F.Field.laws in
    let field = g.F.TwoAdicField in
    let root = field.root in
    let log = c.log2_strict_usize-log_height in
    let width = c.width-width in
    let shift = c.args.shift in
    let given = c.args.values in
    let values = c.into_values in
    let ys = values.result.items in
    let made = c.in_ok-coefficients in
    let xs = made.coefficients.items in
    let height = log.ensures.power ∙ c.height.ensures in
    let within = exponent_within log.result field.TWO_ADICITY _ height c.requires.within_two_adicity in
    let Result : ℕ → Type 0 = λ n. AreEvaluations F (coset_points F (root n) shift n) c.new.result given in
    let held : Holds given width.result (2 ^ log.result) ys = held_by_values given width.result (2 ^ log.result) values.result.len ys width.ensures.some values.result.ok.0 width.ensures.columns height values.ensures.rows values.ensures.len in
    let all : values.result.len ≡ 2 ^ log.result * width.result = values.result.ok.0 ∙ held.size in
    subst Result (exponents_agree log.result k (height ∙ size))
    (evaluations_by_entries F c.new.result given width.result (2 ^ log.result) xs ys (coset_point F (root log.result) shift)
    (held_by_new c.new.result width.result (2 ^ log.result) made.coefficients.len xs width.ensures.some made.coefficients.ok.0 c.new.ensures.rows c.new.ensures.width (made.ensures.len ∙ all))
    held
    (λ i j l q.
    sym (made.ensures.coefficients j (coset_point F (root log.result) shift i) q
    ∙ ap (λ x. val F (interpolant F (subgroup_points F (root log.result) log.result) (strided F width.result (2 ^ log.result) ys j)) x) (shifted_back F L shift c.inverse.result (pow F (root log.result) i) c.requires.nonzero c.inverse.ensures)
    ∙ val-interpolant F L field.TWO_ADICITY root g.met.F.TwoAdicField.roots_law log.result within (λ i. get_or ys (i * width.result + j) F.zero) i l)))
