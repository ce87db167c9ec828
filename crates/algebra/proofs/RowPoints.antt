-- The points of a row from one root, and half their inverses from that of the row's first point: so
-- a row of any arity is folded layer by layer with no inversion but one, and none where that one is
-- a power of the root.
use Rattle.std.proofs.Common.{◌≡◌, ℕ, zero, suc, ◌+◌, ◌*◌, ◌/◌, ◌%◌, ◌^◌, ◌<◌, ◌≤◌, refl, sym, ap}
use Rattle.std.proofs.Common.{ap₂, ◌∙◌, arith, add_comm, add-suc, pow_pos}
use Rattle.std.proofs.lemmas.Nat.{div-mul-add}
use Rattle.algebra.specs.Field.{FieldOps, IsField, pow}
use Rattle.algebra.specs.Digits.{rev}
use Rattle.algebra.specs.TwoAdic.{AreRoots, pt}
use Rattle.algebra.specs.Folds.{IsHalfInverse}
use Rattle.algebra.proofs.Ring.{◌:+◌, ◌:*◌, ◌:=◌, ring}
use Rattle.algebra.proofs.Powers.{double, pow-zero, pow-add, pow-mul}
use Rattle.algebra.proofs.Digits.{rev-zero, rev-suc, rev-split, rev-of_zero}
use Rattle.algebra.proofs.Points.{root-power, point-square}

-- turned digits are the lowest ones
rev-low : (k i j : ℕ) → j < 2 ^ k → rev k (i * 2 ^ k + j) ≡ rev k j
rev-low zero i j l = rev-zero (i * 1 + j) ∙ sym (rev-zero j)
rev-low (suc k) i j l =
    rev-suc k (i * 2 ^ suc k + j)
    ∙ ap₂ (λ r q. r * 2 ^ k + rev k q) low high
    ∙ ap (λ r. (j % 2) * 2 ^ k + r) (rev-low k i (j / 2) (half (rw (double k) at l)))
    ∙ sym (rev-suc k j)
  where
    half : j < 2 ^ k + 2 ^ k → j / 2 < 2 ^ k
    half m = omega (arith, m)

    low : (i * 2 ^ suc k + j) % 2 ≡ j % 2
    low = rw (double k) (parity i (2 ^ k) j)
      where
        parity : (i p j : ℕ) → (i * (p + p) + j) % 2 ≡ j % 2
        parity i p j = omega arith

    high : (i * 2 ^ suc k + j) / 2 ≡ i * 2 ^ k + j / 2
    high = rw (double k) (halves i (2 ^ k) j)
      where
        halves : (i p j : ℕ) → (i * (p + p) + j) / 2 ≡ i * p + j / 2
        halves i p j = omega arith

module _ {A : Type 0} (F : FieldOps A) (L : IsField F) (top : ℕ) (w : ℕ → A)
    (W : AreRoots F top w) where
  infixl 65 ◌⊕◌
  infixl 70 ◌⊗◌
  open F use {one as 𝟙, add as ◌⊕◌, mul as ◌⊗◌}

  -- the points of row `i` are those of the domain of `2^a`, times one power of the root
  pub row_point : (i j a h : ℕ) → j < 2 ^ a → h + a ≤ top
      → pt F w (i * 2 ^ a + j) (h + a) ≡ pow F (w (h + a)) (rev h i) ⊗ pt F w j a
  unfolding pt
  row_point i j a h l b =
      ap (λ n. pow F (w (h + a)) n)
      (ap (λ k. rev k (i * 2 ^ a + j)) (add_comm h a) ∙ rev-split a h (i * 2 ^ a + j)
      ∙ ap₂ (λ r q. r * 2 ^ h + rev h q) (rev-low a i j l) (div-mul-add i (2 ^ a) j l))
      ∙ pow-add F L.ring (w (h + a)) (rev a j * 2 ^ h) (rev h i)
      ∙ ap (λ x. x ⊗ pow F (w (h + a)) (rev h i))
      (pow-mul F L.ring (w (h + a)) (rev a j) (2 ^ h)
      ∙ ap (λ x. pow F x (rev a j))
      (ap (λ k. pow F (w k) (2 ^ h)) (add_comm h a)
      ∙ root-power F L top w W h a (omega (arith, b))))
      ∙ L.mul_comm (pow F (w a) (rev a j)) (pow F (w (h + a)) (rev h i))

  -- the first of them is that power
  pub row_first_point : (i a h : ℕ) → h + a ≤ top
      → pt F w (i * 2 ^ a) (h + a) ≡ pow F (w (h + a)) (rev h i)
  unfolding pt
  row_first_point i a h b =
      ap (λ n. pt F w n (h + a)) (let e : i * 2 ^ a ≡ i * 2 ^ a + 0 = omega arith in e)
      ∙ row_point i 0 a h (pow_pos a) b
      ∙ ap (λ n. pow F (w (h + a)) (rev h i) ⊗ pow F (w a) n) (rev-of_zero a)
      ∙ ap (λ x. pow F (w (h + a)) (rev h i) ⊗ x) (pow-zero F (w a))
      ∙ L.mul_one (pow F (w (h + a)) (rev h i))

  -- of the first point of pair `j` in row `i`, from that of the row's first
  pub half_inverse_in_row : (i j a h : ℕ) (first u : A) → j < 2 ^ a → suc (h + a) ≤ top
      → IsHalfInverse F w (i * 2 ^ a) (h + a) first
      → pt F w (j + j) (suc a) ⊗ u ≡ 𝟙 → IsHalfInverse F w (i * 2 ^ a + j) (h + a) (first ⊗ u)
  half_inverse_in_row i j a h first u l b e f =
      ap (λ x. x ⊗ (first ⊗ u ⊕ first ⊗ u))
      (point j l ∙ ap (λ x. x ⊗ pt F w (j + j) (suc a)) (sym start))
      ∙ ring F L.ring 4 (λ p q s u. p :* q :* (s :* u :+ s :* u) := (p :* (s :+ s)) :* (q :* u))
      refl
      (pt F w (i * 2 ^ a + i * 2 ^ a) (suc (h + a))) (pt F w (j + j) (suc a)) first u
      ∙ ap₂ (λ x y. x ⊗ y) e f
      ∙ L.mul_one 𝟙
    where
      twice : i * 2 ^ a + i * 2 ^ a ≡ i * 2 ^ suc a
      twice = rw (double a) (omega arith)

      start : pt F w (i * 2 ^ a + i * 2 ^ a) (suc (h + a)) ≡ pow F (w (h + suc a)) (rev h i)
      start = ap₂ (pt F w) twice (sym (add-suc h a))
          ∙ row_first_point i (suc a) h (omega (arith, b))

      point : (j : ℕ) → j < 2 ^ a
          → pt F w (i * 2 ^ a + j + (i * 2 ^ a + j)) (suc (h + a))
          ≡ pow F (w (h + suc a)) (rev h i) ⊗ pt F w (j + j) (suc a)
      point j l =
          ap₂ (pt F w) (let e : i * 2 ^ a + j + (i * 2 ^ a + j) ≡ i * 2 ^ suc a + (j + j) =
          omega (arith, twice) in e) (sym (add-suc h a))
          ∙ row_point i (j + j) (suc a) h (omega (arith, l, double a)) (omega (arith, b))

  -- of the first point of pair `n`, from that of pair `2 n` one layer before
  pub half_inverse_by_square : (n k : ℕ) (half : A) → suc (suc k) ≤ top
      → IsHalfInverse F w (n + n) (suc k) half
      → IsHalfInverse F w n k ((half ⊕ half) ⊗ half)
  half_inverse_by_square n k half b e =
      ap (λ x. x ⊗ ((half ⊕ half) ⊗ half ⊕ (half ⊕ half) ⊗ half))
      (sym (point-square F L top w W (n + n) (suc k) b))
      ∙ ring F L.ring 2 (λ p h. (p :* p) :* ((h :+ h) :* h :+ (h :+ h) :* h) := (p :* (h :+ h)) :*
      (p :* (h :+ h))) refl (pt F w ((n + n) + (n + n)) (suc (suc k))) half
      ∙ ap₂ (λ x y. x ⊗ y) e e
      ∙ L.mul_one 𝟙
