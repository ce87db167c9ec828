-- What the calls of a prime field keep, in plain numbers.
use Rattle.std.specs.Prelude.{ℕ, ◌+◌, ◌-◌, ◌*◌, ◌/◌, ◌%◌, ◌^◌, ◌<◌, ◌≤◌, ◌≡◌, ◌⊎◌}
use Rattle.std.proofs.Common.{sym, ◌∙◌, ap, arith, inl, inr}
use Rattle.std.proofs.Math.Nat.{div-add-mod, mod-lt, mod-eq_of_lt, mul_assoc, add-mod_right}
use Rattle.std.proofs.Math.Nat.{add-mul-mod_self_right, mul-le-mul}
use Rattle.std.proofs.lemmas.Nat.{mul-mod_first, mul-mod_second}
use Rattle.std.specs.Int.{from_le_bytes, to_le_bytes, w32, w64}
use Rattle.std.proofs.lemmas.Nat.{from_le_bytes-to_le_bytes_4, from_le_bytes-to_le_bytes_8}
use Rattle.algebra.specs.Primes.{IsPrime}
use Rattle.algebra.proofs.Primes.{descend}
use Rattle.p3_prime_field.specs.Residues.{Residues, modulo}
use Rattle.p3_prime_field.proofs.ResidueLaws.{equal, of_value, sum_is}

-- what a round of the inverse's loop keeps
pub inverse_round : (p x v a : ℕ) → x * v % p ≡ a → 0 < a → a < p
    → x * (v * ((p - p / a) % p) % p) % p ≡ p % a
inverse_round p x v a e pos less =
    let s = p - p / a in
    ap (λ t. x * t % p) (mul-mod_second v s p)
    ∙ mul-mod_second x (v * s) p
    ∙ ap (λ t. t % p) (sym (mul_assoc x v s))
    ∙ sym (mul-mod_first (x * v) s p)
    ∙ ap (λ t. t * s % p) e
    ∙ descend p a (p / a) (p % a) pos (div-add-mod p a)
    ∙ mod-eq_of_lt (let l : p % a < a = mod-lt p pos in omega (arith, l, less))

pub inverse_round_positive : (p a : ℕ) → IsPrime p → 1 < a → a < p → 0 < p % a
inverse_round_positive p a prime one less = omega (arith, prime.1 a one less)

pub inverse_start : (p x : ℕ) → x < p → x * (1 % p) % p ≡ x
inverse_start p x l =
    mul-mod_second x 1 p ∙ ap (λ n. n % p) (let o : x * 1 ≡ x = omega arith in o) ∙ mod-eq_of_lt l

-- half of an even number that counts as `a`, doubled, is `a`
pub half_is : {E : Type 0} (p : ℕ) (N : Residues p E) (a r : E) (n : ℕ) → r ≡ N.element (n / 2)
    → n % 2 ≡ 0 → (n ≡ N.value a) ⊎ (n ≡ N.value a + p) → (modulo p N).add r r ≡ a
half_is p N a r n e even known =
    ap (λ x. (modulo p N).add x x) e
    ∙ sym (sum_is p N (n / 2) (n / 2))
    ∙ ap N.element (let o : n / 2 + n / 2 ≡ n = omega (arith, even) in o)
    ∙ elim known [
      | inl i ↦ ap N.element i
      | inr i ↦ ap N.element i ∙ equal p N _ _ (add-mod_right (N.value a) p)
    ]
    ∙ of_value p N a

-- equal bytes mean equal numbers
pub four_bytes_injective : (m n : ℕ) → m < 2 ^ 32 → n < 2 ^ 32
    → to_le_bytes w32 m ≡ to_le_bytes w32 n → m ≡ n
four_bytes_injective m n l k e =
    sym (from_le_bytes-to_le_bytes_4 m l) ∙ ap (from_le_bytes w32) e
    ∙ from_le_bytes-to_le_bytes_4 n k

pub eight_bytes_injective : (m n : ℕ) → m < 2 ^ 64 → n < 2 ^ 64
    → to_le_bytes w64 m ≡ to_le_bytes w64 n → m ≡ n
eight_bytes_injective m n l k e =
    sym (from_le_bytes-to_le_bytes_8 m l) ∙ ap (from_le_bytes w64) e
    ∙ from_le_bytes-to_le_bytes_8 n k

-- Products modulo `p` by an estimate `h` of their quotient: `q` is the quotient of `2^32 w`, and
-- `h` that of `x q` by `2^32`.
module _ (p x w q h : ℕ) (is_quotient : q ≡ w * 4294967296 / p)
    (is_estimate : h ≡ x * q / 4294967296) where
  -- what both divisions leave
  s : ℕ
  s = w * 4294967296 % p

  t : ℕ
  t = x * q % 4294967296

  left_by_both : 4294967296 * (x * w) ≡ 4294967296 * (h * p) + (p * t + x * s)
  unfolding s t
  left_by_both =
      let a : p * q + s ≡ w * 4294967296 = rw is_quotient (div-add-mod (w * 4294967296) p) in
      let b : 4294967296 * h + t ≡ x * q = rw is_estimate (div-add-mod (x * q) 4294967296) in
      let m : x * (p * q + s) ≡ x * (w * 4294967296) = ap (λ n. x * n) a in
      let k : p * (4294967296 * h + t) ≡ p * (x * q) = ap (λ n. p * n) b in
      omega (arith, m, k)

  pub estimate_below : h * p ≤ x * w
  estimate_below = omega (arith, left_by_both)

  pub rest_below : 0 < p → p ≤ 4294967296 → x < p → x * w < h * p + 2 * p
  unfolding s t
  rest_below pos fits less =
      let u : t < 4294967296 = mod-lt (x * q) (omega arith) in
      let v : s < p = mod-lt (w * 4294967296) pos in
      let m : p * t ≤ p * 4294967295 = mul-le-mul {n₁ = p} {m₁ = t} {n₂ = p} {m₂ = 4294967295} (omega arith) (omega (arith, u)) in
      let k : x * s ≤ 4294967296 * p = mul-le-mul {n₁ = x} {m₁ = s} {n₂ = 4294967296} {m₂ = p} (omega (arith, less, fits)) (omega (arith, v)) in
      omega (arith, left_by_both, m, k, pos)

  -- what is left counts as the product
  pub left_is : (x * w - h * p) % p ≡ x * w % p
  left_is = sym (ap (λ n. n % p)
      (let e : x * w ≡ (x * w - h * p) + h * p = omega (arith, estimate_below) in e)
      ∙ add-mul-mod_self_right (x * w - h * p) h p)
