-- Folds in steps: a fold of log arity `b + a` is one of log arity `a` and then one of `b` at the
-- challenge's `2^a`-th power, so a fold of log arity `a` is `a` binary folds.
use Rattle.std.proofs.Common.{◌≡◌, ℕ, zero, suc, ◌+◌, ◌-◌, ◌*◌, ◌^◌, ◌<◌, ◌≤◌, List, [], ◌∷◌}
use Rattle.std.proofs.Common.{length, take, drop, sym, ap, ap₂, ◌∙◌, arith, mul_comm}
use Rattle.std.proofs.Common.{take_all, length-drop}
use Rattle.std.proofs.lemmas.Nat.{pow-add, mul-add-lt}
use Rattle.algebra.specs.Field.{FieldOps, IsField, pow}
use Rattle.algebra.specs.Polynomial.{val, tabulate}
use Rattle.algebra.specs.Interpolation.{Interpolates, interpolant}
use Rattle.algebra.specs.TwoAdic.{AreRoots, pt, row_points}
use Rattle.algebra.specs.Folds.{neighbours, fold_value, partly_folded}
use Rattle.algebra.specs.Folds.{IsFoldOfBinaryFolds}
use Rattle.algebra.proofs.Powers.{double, pow-two}
use Rattle.algebra.proofs.Values.{val-one}
use Rattle.algebra.proofs.Blocks.{block_values, length-block_values, val-blocks}
use Rattle.algebra.proofs.Interpolation.{interpolant_interpolates, interpolates_unique}
use Rattle.algebra.proofs.Points.{row_distinct}
use Rattle.algebra.proofs.FoldedWords.{neighbours-tabulate, fold-values}
use Rattle.algebra.proofs.Lists.{Distinct, length-tabulate, map-tabulate, tabulate-equal}
use Rattle.algebra.proofs.Lists.{distinct_from_AllPairs}

module _ {A : Type 0} (F : FieldOps A) (L : IsField F) (top : ℕ) (w : ℕ → A)
    (W : AreRoots F top w) where
  infixl 70 ◌⊗◌
  open F use {mul as ◌⊗◌}

  -- the polynomial that has a row's values at the row's points
  abbrev through_row : (i h a : ℕ) (ys : List A) → List A
  through_row i h a ys = interpolant F (row_points F w i a h) ys

  row_distinct_points : (i h a : ℕ) → i < 2 ^ h → h + a ≤ top → Distinct (row_points F w i a h)
  row_distinct_points i h a l t =
      distinct_from_AllPairs (row_points F w i a h) (row_distinct F L top w W i a h t l)

  row_interpolates : (i h a : ℕ) (ys : List A) → i < 2 ^ h → h + a ≤ top → length ys ≡ 2 ^ a
      → Interpolates F (row_points F w i a h) ys (through_row i h a ys)
  row_interpolates i h a ys l t n =
      interpolant_interpolates F L (row_points F w i a h) ys
      (length-tabulate (2 ^ a) (λ j. pt F w (i * 2 ^ a + j) (h + a)) ∙ sym n)
      (row_distinct_points i h a l t)

  row_of_values : (i h a : ℕ) (ys : List A) → i < 2 ^ h → h + a ≤ top → length ys ≡ 2 ^ a
      → ys ≡ tabulate (2 ^ a) (λ j. val F (through_row i h a ys) (pt F w (i * 2 ^ a + j) (h + a)))
  row_of_values i h a ys l t n =
      sym (row_interpolates i h a ys l t n).values
      ∙ map-tabulate (λ x. val F (through_row i h a ys) x) (2 ^ a)
      (λ j. pt F w (i * 2 ^ a + j) (h + a))

  -- the fold of a row of values of a polynomial with as many coefficients is that one's value
  pub fold_value-values : (i h a : ℕ) (beta : A) (c : List A) → i < 2 ^ h → h + a ≤ top
      → length c ≡ 2 ^ a
      → fold_value F w i h a beta
      (tabulate (2 ^ a) (λ j. val F c (pt F w (i * 2 ^ a + j) (h + a)))) ≡ val F c beta
  unfolding fold_value
  fold_value-values i h a beta c l t n =
      ap (λ p. val F p beta)
      (interpolates_unique F L (row_points F w i a h) ys (through_row i h a ys) c
      (row_distinct_points i h a l t)
      (row_interpolates i h a ys l t (length-tabulate (2 ^ a) (λ j. val F c (at j))))
      (record {
        count = n ∙ sym (length-tabulate (2 ^ a) at);
        values =
            map-tabulate (λ x. val F c x) (2 ^ a) at;
      }))
    where
      at : ℕ → A
      at j = pt F w (i * 2 ^ a + j) (h + a)

      ys : List A
      ys = tabulate (2 ^ a) (λ j. val F c (at j))

  -- a fold in two steps
  pub fold_in_steps : (i h b a : ℕ) (beta : A) (ys : List A) → i < 2 ^ h → h + (b + a) ≤ top
      → length ys ≡ 2 ^ (b + a)
      → fold_value F w i h b (pow F beta (2 ^ a)) (partly_folded F w i h b a beta ys)
      ≡ fold_value F w i h (b + a) beta ys
  unfolding fold_value
  fold_in_steps i h b a beta ys l t n =
      ap (λ zs. fold_value F w i h b (pow F beta (2 ^ a)) zs)
      (tabulate-equal (2 ^ b)
      (λ m. fold_value F w (i * 2 ^ b + m) (h + b) a beta (neighbours ys m a))
      (λ m. val F q (pt F w (i * 2 ^ b + m) (h + b)))
      (λ m k. ap (λ zs. fold_value F w (i * 2 ^ b + m) (h + b) a beta zs) (part m k)
      ∙ fold-values F L top w W (i * 2 ^ b + m) (h + b) a (2 ^ b) beta c (below m k)
      (omega (arith, t)) count))
      ∙ fold_value-values i h b (pow F beta (2 ^ a)) q l (omega (arith, t))
      (length-block_values F (2 ^ a) (2 ^ b) c beta)
      ∙ sym (val-blocks F L.ring (2 ^ a) (2 ^ b) c beta count)
    where
      c : List A
      c = through_row i h (b + a) ys

      q : List A
      q = block_values F (2 ^ a) (2 ^ b) c beta

      count : length c ≡ 2 ^ b * 2 ^ a
      count = (row_interpolates i h (b + a) ys l t n).count
          ∙ length-tabulate (2 ^ (b + a)) (λ j. pt F w (i * 2 ^ (b + a) + j) (h + (b + a)))
          ∙ pow-add 2 b a

      below : (m : ℕ) → m < 2 ^ b → i * 2 ^ b + m < 2 ^ (h + b)
      below m k = rw (pow-add 2 h b) (inside i (2 ^ h) (2 ^ b) m l k)
        where
          inside : (i n k m : ℕ) → i < n → m < k → i * k + m < n * k
          inside i n k m l q = rw (mul_comm n k) (mul-add-lt i k m n l q)

      index : (m j : ℕ) → i * 2 ^ (b + a) + (m * 2 ^ a + j) ≡ (i * 2 ^ b + m) * 2 ^ a + j
      index m j = rw (pow-add 2 b a) (sort i (2 ^ b) (2 ^ a) m j)
        where
          sort : (i p q m j : ℕ) → i * (p * q) + (m * q + j) ≡ (i * p + m) * q + j
          sort i p q m j = omega arith

      part : (m : ℕ) → m < 2 ^ b
          → neighbours ys m a ≡ tabulate (2 ^ a)
          (λ j. val F c (pt F w ((i * 2 ^ b + m) * 2 ^ a + j) (h + b + a)))
      part m k =
          ap (λ zs. neighbours zs m a) (row_of_values i h (b + a) ys l t n)
          ∙ neighbours-tabulate b a m (λ j. val F c (pt F w (i * 2 ^ (b + a) + j) (h + (b + a)))) k
          ∙ tabulate-equal (2 ^ a)
          (λ j. val F c (pt F w (i * 2 ^ (b + a) + (m * 2 ^ a + j)) (h + (b + a))))
          (λ j. val F c (pt F w ((i * 2 ^ b + m) * 2 ^ a + j) (h + b + a)))
          (λ j _. ap (λ x. val F c x) (ap₂ (pt F w) (index m j) (omega arith)))

  -- a row of one value is that value
  pub fold_of_one : (i h : ℕ) (beta y : A) → fold_value F w i h 0 beta (y ∷ []) ≡ y
  unfolding fold_value
  fold_of_one i h beta y = val-one F L.ring y beta

  -- one binary step: the row's pairs, folded, fold at the square as the row does
  pub fold_by_pairs : (i h a : ℕ) (beta : A) (ys : List A) → i < 2 ^ h → h + suc a ≤ top
      → length ys ≡ 2 ^ suc a
      → fold_value F w i h a (beta ⊗ beta) (partly_folded F w i h a 1 beta ys)
      ≡ fold_value F w i h (suc a) beta ys
  fold_by_pairs i h a beta ys l t n =
      ap (λ x. fold_value F w i h a x (partly_folded F w i h a 1 beta ys))
      (sym (pow-two F L.ring beta))
      ∙ fold_in_steps i h a 1 beta ys l (omega (arith, t))
      (n ∙ ap (λ k. 2 ^ k) (let e : suc a ≡ a + 1 = omega arith in e))
      ∙ ap (λ k. fold_value F w i h k beta ys) (let e : a + 1 ≡ suc a = omega arith in e)

  -- and the other way round: the row's halves, folded, fold by two at a power of the challenge, as
  -- code that calls itself on halves has them
  pub fold_by_halves : (i h a : ℕ) (beta : A) (ys : List A) → i < 2 ^ h → h + suc a ≤ top
      → length ys ≡ 2 ^ suc a
      → fold_value F w i h 1 (pow F beta (2 ^ a))
      (fold_value F w (i + i) (suc h) a beta (take (2 ^ a) ys)
      ∷ fold_value F w (suc (i + i)) (suc h) a beta (drop (2 ^ a) ys) ∷ [])
      ≡ fold_value F w i h (suc a) beta ys
  fold_by_halves i h a beta ys l t n =
      ap₂ (λ y z. fold_value F w i h 1 (pow F beta (2 ^ a)) (y ∷ z ∷ []))
      (same (i + i) (i * 2 + 0) (take (2 ^ a) ys) (neighbours ys 0 a) (omega arith) first)
      (same (suc (i + i)) (i * 2 + 1) (drop (2 ^ a) ys) (neighbours ys 1 a) (omega arith) second)
      ∙ fold_in_steps i h 1 a beta ys l (omega (arith, t)) (n ∙ ap (λ k. 2 ^ k) one_more)
      ∙ ap (λ k. fold_value F w i h k beta ys) (sym one_more)
    where
      one_more : suc a ≡ 1 + a
      one_more = omega arith

      same : (m k : ℕ) (xs zs : List A) → m ≡ k → xs ≡ zs
          → fold_value F w m (suc h) a beta xs ≡ fold_value F w k (h + 1) a beta zs
      same m k xs zs e f =
          ap (λ g. fold_value F w m g a beta xs) (let g : suc h ≡ h + 1 = omega arith in g)
          ∙ ap₂ (λ j ws. fold_value F w j (h + 1) a beta ws) e f

      first : take (2 ^ a) ys ≡ neighbours ys 0 a
      first = ap₂ (λ k m. take k (drop m ys)) {x = 2 ^ a} {u = 0} (omega arith) (omega arith)

      second : drop (2 ^ a) ys ≡ neighbours ys 1 a
      second =
          sym (take_all (2 ^ a) (drop (2 ^ a) ys)
          (omega (arith, n, double a, length-drop (2 ^ a) ys)))
          ∙ ap₂ (λ k m. take k (drop m ys)) (omega arith) (omega arith)

  -- a fold is as many binary folds as its log arity
  pub fold_of_binary_folds : (i h a : ℕ) (beta : A) (ys : List A) → i < 2 ^ h → h + a ≤ top
      → length ys ≡ 2 ^ a → IsFoldOfBinaryFolds F w i h a beta ys
  fold_of_binary_folds i h zero beta [] l t n = absurd (omega (arith, n))
  fold_of_binary_folds i h zero beta (y ∷ []) l t n =
      ap (λ x. x ∷ []) (sym (fold_of_one i h beta y))
  fold_of_binary_folds i h zero beta (y ∷ z ∷ ys) l t n = absurd (omega (arith, n))
  fold_of_binary_folds i h (suc a) beta ys l t n =
      fold_of_binary_folds i h a (beta ⊗ beta) (partly_folded F w i h a 1 beta ys) l
      (omega (arith, t))
      (length-tabulate (2 ^ a)
      (λ m. fold_value F w (i * 2 ^ a + m) (h + a) 1 beta (neighbours ys m 1)))
      ∙ ap (λ x. x ∷ []) (fold_by_pairs i h a beta ys l t n)
