use Rattle.std.proofs.Common.{◌≡◌, ◌^◌, ◌≤◌, arith, sym, ◌∙◌, ◌++◌, length, take, drop, ap}
use Rattle.std.proofs.Math.Seq.{take-append_seam}
use Rattle.p3_field_core.specs.Index.{bit_reversed}
use Rattle.std.proofs.Math.Pow.{pow_mono}
use Rattle.std.proofs.lemmas.Result.{IfOk-weaker}
use Rattle.algebra.specs.Interpolation.{Interpolates}
use Rattle.algebra.specs.Rounds.{final_polynomial}
use Rattle.algebra.proofs.Points.{lifted_roots}
use Rattle.p3_dft.specs.Evaluations.{subgroup_points}
use Rattle.p3_fri_prover.proofs.Finals.{final_polynomial_of_cut}
use Rattle.p3_fri_prover.proofs.prover.last_word.final_polynomial.Goals as goal

pub idft_algebra-requires-clause-within_two_adicity : goal.idft_algebra-requires-clause-within_two_adicity
idft_algebra-requires-clause-within_two_adicity g c =
    omega (arith, pow_mono c.requires.within_two_adicity, c.truncate.ensures.len, c.final_poly_len.ensures, c.requires.long_enough)

pub returns : goal.returns
returns g c =
    let F = g.F.Field.ops in
    let K = g.EF.Field.ops in
    let lift = g.EF.ExtensionField.lift in
    let root = g.F.TwoAdicField.root in
    let top = g.F.TwoAdicField.TWO_ADICITY in
    let l = c.args.params.now.log_final_poly_len in
    let ys = c.args.word.items in
    let cut = c.truncate.new.self in
    let now = c.reverse_slice_index_bits.new.vals in
    let turned = take cut.len (now ++ drop (length now) cut.items) in
    let size : cut.len ≡ 2 ^ l =
    omega (arith, c.truncate.ensures.len, c.final_poly_len.ensures, c.requires.long_enough) in
    let long : 2 ^ l ≤ length ys = omega (arith, c.args.word.ok.0, c.requires.long_enough) in
    let is_cut : cut.items ≡ take (2 ^ l) ys =
    c.truncate.ensures.items ∙ ap (λ n. take n ys) c.final_poly_len.ensures in
    let listed : length c.deref_mut.result.now ≡ 2 ^ l =
    ap length c.deref_mut.ensures.value ∙ sym cut.ok.0 ∙ size in
    let whole : cut.len ≡ length now =
    omega (arith, c.reverse_slice_index_bits.auto.vals, listed, size) in
    let is_turned : turned ≡ bit_reversed l cut.items =
    ap (λ n. take n (now ++ drop (length now) cut.items)) whole
    ∙ take-append_seam now (drop (length now) cut.items)
    ∙ c.reverse_slice_index_bits.ensures l listed
    ∙ ap (λ xs. bit_reversed l xs) c.deref_mut.ensures.value in
    IfOk-weaker c.idft_algebra.result
    (λ p. Interpolates K (subgroup_points K (lift (root l)) l) turned p.items)
    (λ p. p.items ≡ final_polynomial K (λ k. lift (root k)) l ys)
    (λ p h. final_polynomial_of_cut K g.met.EF.Field.laws top (λ k. lift (root k))
    (lifted_roots F K lift g.met.F.Field.laws g.met.EF.Field.laws g.met.EF.ExtensionField.lift_law
    top root g.met.F.TwoAdicField.roots_law)
    l ys cut.items turned p.items c.requires.within_two_adicity long is_cut is_turned h)
    (c.idft_algebra.ensures l size)
