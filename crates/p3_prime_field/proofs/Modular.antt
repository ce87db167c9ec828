-- Great powers modulo a number, by squaring.
use Rattle.std.specs.Prelude.{ℕ, zero, suc, ◌+◌, ◌*◌, ◌/◌, ◌%◌, ◌^◌, ◌<◌, ◌≡◌}
use Rattle.std.proofs.Common.{sym, ◌∙◌, ap, arith}
use Rattle.std.proofs.Math.Nat.{mul_assoc, mul-one, pow-zero, pow-succ'}
use Rattle.std.proofs.lemmas.Nat.{mul-mod_first, mul-mod_second, pow-add, mul-pow, pow-mod}

-- `r * w^e` modulo `p`, for an exponent of at most `n` binary digits
abbrev pub power_modulo : (p n r w e : ℕ) → ℕ
power_modulo p zero r w e = r
power_modulo p (suc n) r w e = power_modulo p n (r * w ^ (e % 2) % p) (w * w % p) (e / 2)

step : (p r w e : ℕ) → r * w ^ (e % 2) % p * (w * w % p) ^ (e / 2) % p ≡ r * w ^ e % p
step p r w e =
    let odd = e % 2 in
    let h = e / 2 in
    mul-mod_first (r * w ^ odd) ((w * w % p) ^ h) p
    ∙ sym (mul-mod_second (r * w ^ odd) ((w * w % p) ^ h) p)
    ∙ ap (λ t. r * w ^ odd * t % p) (pow-mod (w * w) h p)
    ∙ mul-mod_second (r * w ^ odd) ((w * w) ^ h) p
    ∙ ap (λ t. t % p) (ap (λ t. r * w ^ odd * t) (mul-pow w w h ∙ sym (pow-add w h h))
    ∙ mul_assoc r (w ^ odd) (w ^ (h + h))
    ∙ ap (λ t. r * t) (sym (pow-add w odd (h + h))
    ∙ ap (λ t. w ^ t) (let o : odd + (h + h) ≡ e = omega arith in o)))

modulo_is : (p n r w e : ℕ) → e < 2 ^ n → power_modulo p n r w e % p ≡ r * w ^ e % p
modulo_is p zero r w e less =
    ap (λ t. t % p)
    (sym (ap (λ k. r * w ^ k) (let o : e ≡ 0 = omega (arith, less, pow-zero 2) in o)
    ∙ ap (λ t. r * t) (pow-zero w) ∙ mul-one r))
modulo_is p (suc n) r w e less =
    modulo_is p n (r * w ^ (e % 2) % p) (w * w % p) (e / 2)
    (let o : e / 2 < 2 ^ n = omega (arith, less, pow-succ' 2 n) in o)
    ∙ step p r w e

-- the power of a variable, so that nothing computes it outright
pub power_is : (p n w e : ℕ) → e < 2 ^ n → w ^ e % p ≡ power_modulo p n 1 w e % p
power_is p n w e less =
    sym (modulo_is p n 1 w e less
    ∙ ap (λ t. t % p) (let o : 1 * w ^ e ≡ w ^ e = omega arith in o))
