-- Arithmetic modulo a prime: inverses, and a test for primes.
use Rattle.std.specs.Prelude.{ℕ, zero, suc, ◌+◌, ◌-◌, ◌*◌, ◌/◌, ◌%◌, ◌<◌, ◌≤◌, ◌≡◌, Bool}
use Rattle.std.specs.Prelude.{true, false, leb, refl}
use Rattle.std.proofs.Common.{sym, ◌∙◌, ap, inl, inr, arith}
use Rattle.std.proofs.Math.Nat.{div-add-mod, mod-lt, mod-eq_of_lt}
use Rattle.std.proofs.Math.Nat.{mul-add-mod_self_right, mul_assoc}
use Rattle.std.proofs.lemmas.Bool.Decides.{leb_tells}
use Rattle.std.proofs.lemmas.Nat.{mul-mod_second}
use Rattle.algebra.specs.Primes.{IsPrime, inverse_modulo}

descent : (b q r p : ℕ) → suc b * q + r ≡ p → suc b * (p - q) ≡ b * p + r
descent b q r p e = let k : p - q ≡ b * q + r = omega arith in rw (k, ← e) (omega arith)

pub descend : (p a q r : ℕ) → 0 < a → a * q + r ≡ p → a * (p - q) % p ≡ r % p
descend p zero q r pos e = absurd (omega arith)
descend p (suc b) q r pos e = ap (λ x. x % p) (descent b q r p e) ∙ mul-add-mod_self_right b p r

times : (b s r p v : ℕ) → suc b * s ≡ b * p + r → suc b * (s * v) ≡ b * v * p + r * v
times b s r p v e = sym (mul_assoc (suc b) s v) ∙ ap (λ x. x * v) e ∙ omega arith

down : (p a q r v : ℕ) → 0 < a → a * q + r ≡ p → r * v % p ≡ 1 → a * ((p - q) * v % p) % p ≡ 1
down p zero q r v pos e h = absurd (omega arith)
down p (suc b) q r v pos e h =
    mul-mod_second (suc b) ((p - q) * v) p
    ∙ ap (λ x. x % p) (times b (p - q) r p v (descent b q r p e))
    ∙ mul-add-mod_self_right (b * v) p (r * v)
    ∙ h

if_true : (b : Bool) (x y : ℕ) → b ≡ true → (elim b as (λ _. ℕ) [ true ↦ x | false ↦ y ]) ≡ x
if_true true x y e = refl
if_true false x y e = absurd (cc)

if_false : (b : Bool) (x y : ℕ) → b ≡ false → (elim b as (λ _. ℕ) [ true ↦ x | false ↦ y ]) ≡ y
if_false true x y e = absurd (cc)
if_false false x y e = refl

pub inverse_modulo-mul : (p : ℕ) → IsPrime p → (n a : ℕ) → 0 < a → a < p → a ≤ n → a * inverse_modulo p n a % p ≡ 1
inverse_modulo-mul p prime zero a pos less le = absurd (omega arith)
inverse_modulo-mul p prime (suc n) a pos less le =
    let t = leb_tells a 1 in
    elim t [
      | inl y ↦
          let e : a ≡ 1 = omega (arith, y) in
          ap (λ v. a * v % p) (if_true (leb a 1) 1 ((p - p / a) * inverse_modulo p n (p % a) % p) y.0)
          ∙ rw e (mod-eq_of_lt prime.0)
      | inr y ↦
          let r_less : p % a < a = mod-lt p pos in
          let r_pos : 0 < p % a = omega (arith, prime.1 a y.1 less) in
          ap (λ v. a * v % p) (if_false (leb a 1) 1 ((p - p / a) * inverse_modulo p n (p % a) % p) y.0)
          ∙ down p a (p / a) (p % a) (inverse_modulo p n (p % a)) pos (div-add-mod p a)
          (inverse_modulo-mul p prime n (p % a) r_pos (omega arith) (omega arith))
    ]

chosen : (b t : Bool) → (elim b as (λ _. Bool) [ true ↦ false | false ↦ t ]) ≡ true → (b ≡ false) × (t ≡ true)
chosen true t h = absurd (cc)
chosen false t h = (refl, h)

above_one : (p d q : ℕ) → d * q ≡ p → 0 < p → d < p → 1 < q
above_one p d zero e pos l = absurd (omega arith)
above_one p d (suc zero) e pos l = absurd (omega arith)
above_one p d (suc (suc q)) e pos l = omega arith
