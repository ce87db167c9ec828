use Rattle.std.proofs.Common.{◌≡◌, ◌^◌, ◌<◌, ℕ, Result, Ok, Err, ap, subst, sym, ◌∙◌, IfOk}
use Rattle.algebra.specs.Polynomial.{val}
use Rattle.algebra.specs.Interpolation.{Interpolates, interpolant}
use Rattle.algebra.proofs.Points.{lifted_roots}
use Rattle.p3_field_core.proofs.IndexPowers.{exponents_agree}
use Rattle.p3_dft.specs.Evaluations.{subgroup_points}
use Rattle.p3_dft.specs.Strided.{strided}
use Rattle.p3_dft.proofs.Batches.{exponent_within}
use Rattle.p3_dft.proofs.SingleColumns.{interpolates_from_values}
use Rattle.p3_dft.proofs.radix_2_dit.Radix2DitTwoAdicSubgroupDft.idft_algebra.Goals as goal

pub interpolate-requires-clause-within_two_adicity : goal.interpolate-requires-clause-within_two_adicity
interpolate-requires-clause-within_two_adicity g c = exponent_within c.log2_strict_usize-log_height.result g.F.TwoAdicField.TWO_ADICITY _ (c.log2_strict_usize-log_height.ensures.power ∙ c.len.ensures) c.requires.within_two_adicity

-- what holds of an answer by two facts on it
by_both : {X Y : Type 0} (r : Result X Y) (P Q R : X → Type 0) → ((x : X) → P x → Q x → R x) → IfOk r P → IfOk r Q → IfOk r R
by_both (Ok x) P Q R h p q = h x p q
by_both (Err e) P Q R h p q = tt

pub returns : goal.returns
returns g c k size =
    let F = g.F.Field.ops in
    let K = g.EF.Field.ops in
    let L = g.met.EF.Field.laws in
    let lift = g.EF.ExtensionField.lift in
    let H = g.met.EF.ExtensionField.lift_law in
    let field = g.F.TwoAdicField in
    let root : ℕ → g.row.EF.Denot = λ n. lift (field.root n) in
    let W = lifted_roots F K lift g.met.F.Field.laws L H field.TWO_ADICITY field.root g.met.F.TwoAdicField.roots_law in
    let log = c.log2_strict_usize-log_height in
    let ys = c.args.values in
    let height : 2 ^ log.result ≡ ys.len = log.ensures.power ∙ c.len.ensures in
    let Answer : ℕ → Type 0 = λ n. IfOk c.interpolate.result (λ coefficients. Interpolates K (subgroup_points K (root n) n) ys.items coefficients.items) in
    subst Answer (exponents_agree log.result k (height ∙ size))
    (by_both c.interpolate.result (λ coefficients. coefficients.len ≡ ys.len) (λ coefficients. (j : ℕ) (x : g.row.EF.Denot) → j < 1 → val K (strided K 1 (2 ^ log.result) coefficients.items j) x ≡ val K (interpolant K (subgroup_points K (root log.result) log.result) (strided K 1 (2 ^ log.result) ys.items j)) (K.mul (lift c.ONE.result) x))
    (λ coefficients. Interpolates K (subgroup_points K (root log.result) log.result) ys.items coefficients.items)
    (λ coefficients len known. interpolates_from_values K L field.TWO_ADICITY root W log.result (exponent_within log.result field.TWO_ADICITY ys.len height c.requires.within_two_adicity)
    (lift c.ONE.result) coefficients.items ys.items (ap lift (c.ONE.ensures ∙ g.met.F.Field.one_law) ∙ H.one)
    (sym coefficients.ok.0 ∙ len ∙ sym height) (sym ys.ok.0 ∙ sym height) known)
    c.interpolate.ensures.len c.interpolate.ensures.coefficients)
