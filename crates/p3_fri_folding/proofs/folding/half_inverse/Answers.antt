use Rattle.std.proofs.Common.{◌≡◌, ◌+◌, ◌-◌, ◌*◌, ◌^◌, ◌%◌, suc, ap, ap₂, sym, ◌∙◌, arith}
use Rattle.std.proofs.lemmas.Nat.{one_shl}
use Rattle.algebra.specs.Field.{pow}
use Rattle.algebra.proofs.Digits.{rev-lt}
use Rattle.algebra.proofs.PairFolds.{half_inverse_by_power}
use Rattle.p3_fri_folding.proofs.Halves.{rev-row, power_grows}
use Rattle.p3_fri_folding.proofs.folding.half_inverse.Goals as goal

pub overflow_sub-power : goal.overflow_sub-power
overflow_sub-power g c =
    let h = c.args.log_height in
    let n = h + c.args.log_arity in
    let order : 1 * 2 ^ n % 2 ^ 64 ≡ 2 ^ n = one_shl n 64 (omega (arith, c.requires.within_two_adicity, g.met.F.TwoAdicField.two_adicity_law)) in
    omega (arith, order, power_grows h c.args.log_arity, c.reverse_bits_len.ensures, rev-lt h c.args.index)

pub returns : goal.returns
returns g c a e =
    let h = c.args.log_height in
    let n = h + c.args.log_arity in
    let two_adic = g.met.F.TwoAdicField in
    let w = g.F.TwoAdicField.root in
    let turns = 1 * 2 ^ n % 2 ^ 64 - c.reverse_bits_len.result in
    let size : n ≡ suc (h + a) = omega (arith, e) in
    let order : 1 * 2 ^ n % 2 ^ 64 ≡ 2 ^ suc (h + a) = one_shl n 64 (omega (arith, c.requires.within_two_adicity, two_adic.two_adicity_law)) ∙ ap (λ k. 2 ^ k) size in
    half_inverse_by_power g.F.Field.ops g.met.F.Field.laws g.F.TwoAdicField.TWO_ADICITY w two_adic.roots_law (c.args.index * 2 ^ a) (h + a) turns c.halve.result
    (omega (arith, size, c.requires.within_two_adicity)) (ap₂ (λ m k. m - k) order (c.reverse_bits_len.ensures ∙ sym (rev-row h a c.args.index)))
    (c.halve.ensures ∙ c.exp_u64.ensures ∙ ap (λ x. pow g.F.Field.ops x turns) (c.requires.is_root ∙ ap w size))
