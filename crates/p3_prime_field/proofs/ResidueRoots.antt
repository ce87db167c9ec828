-- Roots of unity of a prime field, and what is no square there, by one power of -1.
use Rattle.std.specs.Prelude.{ℕ, zero, suc, ◌+◌, ◌-◌, ◌*◌, ◌%◌, ◌^◌, ◌<◌, ◌≡◌, ◌≢◌}
use Rattle.std.proofs.Common.{sym, ◌∙◌, ap, ap₂, arith, refl, mul_comm}
use Rattle.std.proofs.Math.Nat.{mod-eq_of_lt}
use Rattle.algebra.specs.Field.{FieldOps, IsRing, pow}
use Rattle.algebra.specs.TwoAdic.{AreRoots}
use Rattle.algebra.proofs.Fermat.{square_half_power}
use Rattle.algebra.proofs.Powers.{pow-add, pow-mul, double}
use Rattle.algebra.proofs.Ring.{◌:*◌, ◌:=◌, ring, :1, minus}
use Rattle.p3_prime_field.specs.Proth.{IsProth}
use Rattle.p3_prime_field.specs.Residues.{Residues, modulo}
use Rattle.p3_prime_field.proofs.ResidueLaws.{residue_ring, pow_is, equal}
use Rattle.p3_prime_field.proofs.ProthTest.{proth_prime}

-- powers of `g`, of which that to `odd * 2^k` is -1
module _ {A : Type 0} (F : FieldOps A) (R : IsRing F) (g : A) (odd k : ℕ)
    (turned : pow F g (odd * 2 ^ k) ≡ F.neg F.one) where
  abbrev pub power_root : ℕ → A
  power_root i = pow F g (odd * 2 ^ (suc k - i))

  doubled : (m n : ℕ) → n ≡ suc m → odd * 2 ^ m + odd * 2 ^ m ≡ odd * 2 ^ n
  doubled m n e = rw (e, double m) (omega arith)

  squared : (m n : ℕ) → n ≡ suc m
      → F.mul (pow F g (odd * 2 ^ m)) (pow F g (odd * 2 ^ m)) ≡ pow F g (odd * 2 ^ n)
  squared m n e =
      sym (pow-add F R g (odd * 2 ^ m) (odd * 2 ^ m)) ∙ ap (λ i. pow F g i) (doubled m n e)

  pub power_roots : AreRoots F (suc k) power_root
  power_roots = record {
    first = ap (λ i. pow F g (odd * 2 ^ i)) (let o : suc k - 0 ≡ suc k = omega arith in o)
        ∙ sym (squared k (suc k) refl)
        ∙ ap₂ F.mul turned turned
        ∙ ring F R 0 (minus :1 :* minus :1 := :1) refl;
    minus_one = λ l. ap (λ i. pow F g (odd * 2 ^ i)) (let o : suc k - 1 ≡ k = omega arith in o)
        ∙ turned;
    square = λ i l. squared (suc k - suc i) (suc k - i) (omega (arith, l));
  }

  -- each is a power of the greatest
  pub power_root_is : (i : ℕ) → pow F (pow F g odd) (2 ^ i) ≡ pow F g (odd * 2 ^ i)
  power_root_is i =
      sym (pow-mul F R g (2 ^ i) odd) ∙ ap (λ n. pow F g n) (mul_comm (2 ^ i) odd)

module _ {E : Type 0} (p : ℕ) (N : Residues p E) (k odd g : ℕ) (P : IsProth p k odd g) where
  open N use {value, element}

  pub half_power : pow (modulo p N) (element g) (odd * 2 ^ k) ≡ (modulo p N).neg (element 1)
  half_power =
      pow_is p N g (odd * 2 ^ k)
      ∙ equal p N _ _ (P.half g refl ∙ sym (mod-eq_of_lt (omega (arith, P.above)))
      ∙ ap (λ n. (p - n) % p) (sym (mod-eq_of_lt (omega (arith, P.above))) ∙ sym (N.counts 1)))

  pub residue_roots : AreRoots (modulo p N) (suc k)
      (λ i. pow (modulo p N) (element g) (odd * 2 ^ (suc k - i)))
  residue_roots = power_roots (modulo p N) (residue_ring p N) (element g) odd k half_power

  pub no_square : 0 < g → g < p → (s : E) → (modulo p N).mul s s ≢ element g
  no_square pos less s e =
      number (value s) (N.canonical s)
      (sym (N.counts (value s * value s)) ∙ ap value e ∙ N.counts g ∙ mod-eq_of_lt less)
    where
      number : (s : ℕ) → s < p → s * s % p ≢ g
      number zero l e = omega (arith, e, pos, let o : 0 % p ≡ 0 = omega arith in o)
      number (suc s) l e =
          let one = square_half_power p (proth_prime p k odd g P) (odd * 2 ^ k) (suc s) P.order
          (omega arith) l in
          let other = P.half (suc s * suc s % p) e in
          omega (arith, sym one ∙ other, P.above)
