-- A row's two halves are rows of their own, one layer up: where each starts, and where they meet.
use Rattle.std.proofs.Common.{◌≡◌, ℕ, zero, suc, ◌+◌, ◌*◌, ◌^◌, ◌<◌, ◌≤◌, refl, sym, ap, ap₂}
use Rattle.std.proofs.Common.{◌∙◌, arith, pow_pos}
use Rattle.std.proofs.lemmas.Nat.{pow-add}
use Rattle.std.proofs.Math.Nat.{mul-le-mul_left}
use Rattle.algebra.specs.Field.{FieldOps, IsField, pow}
use Rattle.algebra.specs.Digits.{rev}
use Rattle.algebra.specs.TwoAdic.{AreRoots, pt}
use Rattle.algebra.specs.Folds.{IsHalfInverse}
use Rattle.algebra.proofs.Ring.{◌:*◌, ◌:=◌, ring, minus}
use Rattle.algebra.proofs.Digits.{rev-even, rev-suc, rev-zero}
use Rattle.algebra.proofs.Powers.{double, pow-one, pow-suc_is}
use Rattle.algebra.proofs.Points.{full_turn}
use Rattle.algebra.proofs.RowPoints.{half_inverse_in_row, half_inverse_by_square}
use Rattle.p3_fri_folding.specs.Rows.{StartsRow}

-- the digits of a row's first index
pub rev-row : (h a i : ℕ) → rev (h + a) (i * 2 ^ a) ≡ rev h i
rev-row h zero i = ap₂ rev (let e : h + 0 ≡ h = omega arith in e) (let e : i * 1 ≡ i = omega arith in e)
rev-row h (suc a) i =
    ap₂ rev (let e : h + suc a ≡ suc (h + a) = omega arith in e) twice
    ∙ rev-even (h + a) (i * 2 ^ a) ∙ rev-row h a i
  where
    twice : i * 2 ^ suc a ≡ i * 2 ^ a + i * 2 ^ a
    twice = rw (double a) (omega arith)

pub power_grows : (h a : ℕ) → 2 ^ h ≤ 2 ^ (h + a)
power_grows h a = rw (pow-add 2 h a) (grows (2 ^ h) (2 ^ a) (pow_pos a))
  where
    grows : (m n : ℕ) → 0 < n → m ≤ m * n
    grows m n l = omega (arith, mul-le-mul_left m l)

-- those of a row's middle
rev-middle : (a : ℕ) → rev (suc a) (2 ^ a) ≡ 1
rev-middle zero = rev-suc 0 1 ∙ ap (λ r. 1 + r) (rev-zero 0)
rev-middle (suc a) = ap (λ n. rev (suc (suc a)) n) (double a) ∙ rev-even (suc a) (2 ^ a) ∙ rev-middle a

module _ {A : Type 0} (F : FieldOps A) (L : IsField F) (top : ℕ) (w : ℕ → A)
    (W : AreRoots F top w) where
  infixl 70 ◌⊗◌
  open F use {one as 𝟙, mul as ◌⊗◌}

  -- the root to one less than its order is its inverse
  pub inverse_by_power : (k n : ℕ) → k ≤ top → suc n ≡ 2 ^ k → w k ⊗ pow F (w k) n ≡ 𝟙
  inverse_by_power k n b e =
      sym (pow-suc_is F (w k) n) ∙ ap (λ m. pow F (w k) m) e ∙ full_turn F L top w W k b

  -- and the root of order 2 is its own
  pub inverse_of_minus_one : 0 < top → w 1 ⊗ F.neg 𝟙 ≡ 𝟙
  inverse_of_minus_one b =
      ap (λ x. x ⊗ F.neg 𝟙) (W.minus_one b)
      ∙ ring F L.ring 1 (λ x. minus x :* minus x := x :* x) refl 𝟙
      ∙ L.mul_one 𝟙

  -- the inverse of a root's square
  inverse_of_square : (k : ℕ) (u v : A) → k < top → v ≡ u ⊗ u → w (suc k) ⊗ u ≡ 𝟙 → w k ⊗ v ≡ 𝟙
  inverse_of_square k u v b is e =
      ap₂ (λ x y. x ⊗ y) (sym (W.square k b)) is
      ∙ ring F L.ring 2 (λ x u. (x :* x) :* (u :* u) := (x :* u) :* (x :* u)) refl (w (suc k)) u
      ∙ ap₂ (λ x y. x ⊗ y) e e
      ∙ L.mul_one 𝟙

  same_pair : (m n j k : ℕ) (half : A) → m ≡ n → j ≡ k → IsHalfInverse F w m j half
      → IsHalfInverse F w n k half
  same_pair m n j k half e f h =
      ap₂ (λ p q. pt F w (p + p) (suc q) ⊗ F.add half half) (sym e) (sym f) ∙ h

  pub starts_first_half : (i h a : ℕ) (half u v : A) → h + suc (suc a) ≤ top → v ≡ u ⊗ u
      → StartsRow F w i h (suc a) half u → StartsRow F w (i + i) (suc h) a half v
  starts_first_half i h a half u v b square s = record {
    first_pair = same_pair (i * 2 ^ suc a) ((i + i) * 2 ^ a) (h + suc a) (suc h + a) half
        (rw (double a) (omega arith)) (omega arith) s.first_pair;
    inverse = inverse_of_square (suc a) u v (omega (arith, b)) square s.inverse;
  }

  pub starts_second_half : (i h a : ℕ) (half u v second : A) → h + suc (suc a) ≤ top → v ≡ u ⊗ u
      → second ≡ half ⊗ u → StartsRow F w i h (suc a) half u
      → StartsRow F w (suc (i + i)) (suc h) a second v
  unfolding pt
  starts_second_half i h a half u v second b square is s = record {
    first_pair = same_pair (i * 2 ^ suc a + 2 ^ a) (suc (i + i) * 2 ^ a) (h + suc a) (suc h + a)
        second (rw (double a) (omega arith)) (omega arith)
        (rw (is) (half_inverse_in_row F L top w W i (2 ^ a) (suc a) h half u (inside a)
        (omega (arith, b)) s.first_pair middle));
    inverse = inverse_of_square (suc a) u v (omega (arith, b)) square s.inverse;
  }
    where
      inside : (a : ℕ) → 2 ^ a < 2 ^ suc a
      inside a = rw (double a) (omega (arith, pow_pos a))

      middle : pt F w (2 ^ a + 2 ^ a) (suc (suc a)) ⊗ u ≡ 𝟙
      middle =
          ap (λ n. pow F (w (suc (suc a))) n ⊗ u) (rev-even (suc a) (2 ^ a) ∙ rev-middle a)
          ∙ ap (λ x. x ⊗ u) (pow-one F L.ring (w (suc (suc a)))) ∙ s.inverse

  -- where the halves meet, by the start of the first
  pub half_inverse_of_row : (i h : ℕ) (half twice r : A) → suc (suc h) ≤ top
      → IsHalfInverse F w (i + i) (suc h) half → twice ≡ F.add half half → r ≡ twice ⊗ half
      → IsHalfInverse F w i h r
  half_inverse_of_row i h half twice r b inverse doubled is =
      ap (λ x. pt F w (i + i) (suc h) ⊗ F.add x x) (is ∙ ap (λ x. x ⊗ half) doubled)
      ∙ half_inverse_by_square F L top w W i h half b inverse

  -- a row of two is its own first pair
  pub half_inverse_of_pair : (i h : ℕ) (half u : A) → StartsRow F w i h 0 half u
      → IsHalfInverse F w i h half
  half_inverse_of_pair i h half u s =
      same_pair (i * 1) i (h + 0) h half (omega arith) (omega arith) s.first_pair
