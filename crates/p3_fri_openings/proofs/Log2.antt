-- The logarithm of a power of two is its exponent.
use Rattle.std.proofs.Common.{◌≡◌, ℕ, zero, suc, ◌+◌, ◌/◌, ◌^◌, ◌<◌, nat_lt, false, refl, sym, ap, ◌∙◌, arith}
use Rattle.std.proofs.lemmas.Bool.{le-ltb}
use Rattle.std.proofs.lemmas.Nat.{pow-add, pow_pos}
use Rattle.std.proofs.Math.Nat.{mul-div_cancel}
use Rattle.algebra.proofs.Powers.{double}
use Rattle.p3_fri_openings.specs.Log2.{halvings, log2}
use Rattle.p3_field_core.proofs.IndexPowers.{double_halved}

below-pow : (k : ℕ) → k < 2 ^ k
below-pow zero = omega arith
below-pow (suc k) = let d = double k in let h = below-pow k in omega arith

above : (k : ℕ) → nat_lt (2 ^ suc k) 2 ≡ false
above k = let d = double k in let p = below-pow k in le-ltb (2 ^ suc k) 2 (omega arith)

halvings-pow : (k limit : ℕ) → k < limit → halvings limit (2 ^ k) ≡ k
unfolding halvings
halvings-pow k zero h = absurd (omega arith)
halvings-pow zero (suc limit) h = refl
halvings-pow (suc k) (suc limit) h =
    rw (above k, double_halved k) (ap suc (halvings-pow k limit (omega arith)))

pub log2-pow : (k : ℕ) → log2 (2 ^ k) ≡ k
log2-pow k = halvings-pow k (2 ^ k) (below-pow k)

pub log2_is : (n k : ℕ) → 2 ^ k ≡ n → k ≡ log2 n
log2_is n k e = sym (log2-pow k) ∙ ap log2 e

pub pow-log2 : (n k : ℕ) → n ≡ 2 ^ k → 2 ^ log2 n ≡ n
pow-log2 n k e = ap (λ m. 2 ^ m) (sym (log2_is n k (sym e))) ∙ sym e

-- a power of two divided by a lower one
pub pow-divided : (k b : ℕ) → 2 ^ (k + b) / 2 ^ b ≡ 2 ^ k
pow-divided k b = ap (λ n. n / 2 ^ b) (pow-add 2 k b) ∙ mul-div_cancel (2 ^ k) (pow_pos b)
