use Rattle.std.proofs.Common.{◌≡◌, ◌≤◌, ◌*◌, ◌^◌, ◌+◌, length, ap, ap₂, sym, subst, ◌∙◌, arith}
use Rattle.std.proofs.lemmas.Nat.{pow-add}
use Rattle.std.proofs.Math.Nat.{pow-le-pow_right}
use Rattle.algebra.proofs.Lists.{length-tabulate}
use Rattle.p3_field_core.specs.Coset.{coset_point}
use Rattle.p3_matrix.specs.Matrix.{rows}
use Rattle.p3_dft.specs.CosetWords.{HoldsCosetWords}
use Rattle.p3_dft.proofs.ReversedColumns.{extensions_are_words}
use Rattle.p3_fri_extensions.proofs.Shifted.{extension_is}
use Rattle.p3_fri_extensions.proofs.extension.extend.Goals as goal

pub coset_lde_batch-requires-clause-within_two_adicity :
    goal.coset_lde_batch-requires-clause-within_two_adicity
coset_lde_batch-requires-clause-within_two_adicity g c =
    let k = c.args.domain.log_size in
    let e : length (rows c.args.values) * 2 ^ c.args.log_blowup ≡ 2 ^ (k + c.args.log_blowup) =
    ap (λ n. n * 2 ^ c.args.log_blowup) c.requires.fits.height ∙ sym (pow-add 2 k c.args.log_blowup) in
    let more : 2 ^ (k + c.args.log_blowup) ≤ 2 ^ g.F.TwoAdicField.TWO_ADICITY =
    pow-le-pow_right {n = 2} (omega arith) {i = k + c.args.log_blowup} {j = g.F.TwoAdicField.TWO_ADICITY} c.requires.fits.within in
    rw e more

pub bit_reverse_rows-requires : goal.bit_reverse_rows-requires
bit_reverse_rows-requires g c =
    let k = c.args.domain.log_size in
    let known = c.in_ok-extended.ensures k c.requires.fits.height in
    record {
      power_of_two = (
        k + c.args.log_blowup,
        known.height ∙ length-tabulate (2 ^ (k + c.args.log_blowup)) (coset_point g.F.Field.ops
            (g.F.TwoAdicField.root (k + c.args.log_blowup)) c.mul-shift.result),
      );
    }

pub returns : goal.returns
returns g c =
    let F = g.F.Field.ops in
    let k = c.args.domain.log_size in
    let s = c.args.domain.shift in
    let known = c.in_ok-extended.ensures k c.requires.fits.height in
    let tall = known.height ∙ length-tabulate (2 ^ (k + c.args.log_blowup)) (coset_point F
    (g.F.TwoAdicField.root (k + c.args.log_blowup)) c.mul-shift.result) in
    let shift : c.mul-shift.result ≡ F.mul g.F.Field.GENERATOR (F.inv s) =
    g.met.F.Field.mul_law _ _ c.mul-shift.result c.mul-shift.ensures
    ∙ ap₂ (λ a b. F.mul a b) c.GENERATOR.ensures (c.inverse.ensures ∙ ap (λ x. F.inv x) c.shift.ensures) in
    extension_is F g.met.F.Field.laws g.F.TwoAdicField.TWO_ADICITY g.F.TwoAdicField.root
    g.met.F.TwoAdicField.roots_law s g.F.Field.GENERATOR c.args.domain.nonzero k c.args.log_blowup
    c.requires.fits.within c.args.values c.bit_reverse_rows.result c.requires.fits.height
    (subst (λ h. HoldsCosetWords F g.F.TwoAdicField.root h k c.args.log_blowup c.args.values c.bit_reverse_rows.result) shift
    (extensions_are_words F g.met.F.Field.laws g.F.TwoAdicField.TWO_ADICITY g.F.TwoAdicField.root
    g.met.F.TwoAdicField.roots_law c.mul-shift.result k c.args.log_blowup c.args.values
    c.in_ok-extended.extended c.bit_reverse_rows.result c.requires.fits.within
    c.requires.fits.height known (c.bit_reverse_rows.ensures.rows (k + c.args.log_blowup) tall)
    c.bit_reverse_rows.ensures.width))
