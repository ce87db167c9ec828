-- The fold of a polynomial's word is the word of the polynomial of its blocks' values.
use Rattle.std.proofs.Common.{◌≡◌, ℕ, ◌+◌, ◌*◌, ◌-◌, ◌^◌, ◌<◌, ◌≤◌, List, length, take, drop}
use Rattle.std.proofs.Common.{slice_range, sym, ap, ap₂, ◌∙◌, arith}
use Rattle.std.proofs.lemmas.Nat.{pow-add}
use Rattle.algebra.specs.Field.{FieldOps, IsField, IsHomomorphism}
use Rattle.algebra.specs.Polynomial.{val, tabulate}
use Rattle.algebra.specs.Interpolation.{Interpolates, interpolant}
use Rattle.algebra.specs.TwoAdic.{AreRoots, pt, row_points}
use Rattle.algebra.specs.Words.{word, IsWord}
use Rattle.algebra.specs.Folds.{neighbours, fold_value, folded_word, LowersDegrees}
use Rattle.algebra.proofs.Blocks.{block_values, block_sum, length-block_values, length-block_sum}
use Rattle.algebra.proofs.Blocks.{val-blocks, val-block_sum}
use Rattle.algebra.proofs.Interpolation.{interpolant_interpolates, interpolates_unique}
use Rattle.algebra.proofs.Points.{lifted_roots, row-power, row_distinct}
use Rattle.algebra.proofs.Words.{take-tabulate, drop-tabulate}
use Rattle.algebra.proofs.Lists.{Distinct, length-tabulate, map-tabulate, tabulate-equal}
use Rattle.algebra.proofs.Lists.{distinct_from_AllPairs}

-- a part of a list by index
slice_range-tabulate : {A : Type 0} (N s n : ℕ) (f : ℕ → A) → s + n ≤ N
    → slice_range (tabulate N f) s (s + n) ≡ tabulate n (λ j. f (s + j))
slice_range-tabulate N s n f b =
    ap₂ (λ k xs. take k xs) (omega arith)
    (ap (λ k. drop s (tabulate k f)) (let e : N ≡ s + (N - s) = omega (arith, b) in e)
    ∙ drop-tabulate s (N - s) f)
    ∙ take-tabulate n (N - s) (λ i. f (s + i)) (omega (arith, b))

-- rows lie within a list of as many
pub row_within : (i n k : ℕ) → i < n → i * k + k ≤ n * k
row_within i n k l = grind arith

-- a row of a list by index
pub neighbours-tabulate : {A : Type 0} (h a i : ℕ) (f : ℕ → A) → i < 2 ^ h
    → neighbours (tabulate (2 ^ (h + a)) f) i a ≡ tabulate (2 ^ a) (λ j. f (i * 2 ^ a + j))
neighbours-tabulate h a i f l =
    slice_range-tabulate (2 ^ (h + a)) (i * 2 ^ a) (2 ^ a) f
    (rw (pow-add 2 h a) (row_within i (2 ^ h) (2 ^ a) l))

module _ {A : Type 0} (F : FieldOps A) (L : IsField F) (top : ℕ) (w : ℕ → A)
    (W : AreRoots F top w) where
  -- a row of a polynomial's values folds to the value of the blocks' polynomial at the row's point
  pub fold-values : (i h a d : ℕ) (beta : A) (c : List A) → i < 2 ^ h → h + a ≤ top
      → length c ≡ d * 2 ^ a
      → fold_value F w i h a beta (tabulate (2 ^ a) (λ j. val F c (pt F w (i * 2 ^ a + j) (h + a))))
      ≡ val F (block_values F (2 ^ a) d c beta) (pt F w i h)
  unfolding fold_value
  fold-values i h a d beta c l b e =
      ap (λ p. val F p beta)
      (interpolates_unique F L points ys
      (interpolant F points ys) sum_at distinct through_ys through_sum)
      ∙ val-block_sum F L.ring (2 ^ a) d c (pt F w i h) beta e
    where
      at : ℕ → A
      at j = pt F w (i * 2 ^ a + j) (h + a)

      points : List A
      points = row_points F w i a h

      ys : List A
      ys = tabulate (2 ^ a) (λ j. val F c (at j))

      sum_at : List A
      sum_at = block_sum F (2 ^ a) d c (pt F w i h)

      distinct : Distinct points
      distinct = distinct_from_AllPairs points (row_distinct F L top w W i a h b l)

      through_ys : Interpolates F points ys (interpolant F points ys)
      through_ys =
          interpolant_interpolates F L points ys
          (length-tabulate (2 ^ a) at ∙ sym (length-tabulate (2 ^ a) (λ j. val F c (at j))))
          distinct

      through_sum : Interpolates F points ys sum_at
      through_sum = record {
        count = length-block_sum F L.ring (2 ^ a) d c (pt F w i h) e
            ∙ sym (length-tabulate (2 ^ a) at);
        values = map-tabulate (λ x. val F sum_at x) (2 ^ a) at
            ∙ tabulate-equal (2 ^ a) (λ j. val F sum_at (at j)) (λ j. val F c (at j))
            (λ j k. val-block_sum F L.ring (2 ^ a) d c (pt F w i h) (at j) e
            ∙ ap (λ z. val F (block_values F (2 ^ a) d c (at j)) z)
            (sym (row-power F L top w W i j a h k b))
            ∙ sym (val-blocks F L.ring (2 ^ a) d c (at j) e));
      }

  -- so the word of a polynomial folds to that of the blocks' polynomial
  pub folded_word-word : (h a d : ℕ) (beta : A) (c : List A) → h + a ≤ top → length c ≡ d * 2 ^ a
      → folded_word F w h a beta (word F w (h + a) c) ≡ word F w h (block_values F (2 ^ a) d c beta)
  unfolding folded_word
  folded_word-word h a d beta c b e =
      tabulate-equal (2 ^ h) (λ i. fold_value F w i h a beta (neighbours (word F w (h + a) c) i a))
      (λ i. val F (block_values F (2 ^ a) d c beta) (pt F w i h))
      (λ i l. ap (λ ys. fold_value F w i h a beta ys)
      (neighbours-tabulate h a i (λ j. val F c (pt F w j (h + a))) l)
      ∙ fold-values i h a d beta c l b e)

  -- degrees fall
  pub folded_word-degree : (h a d : ℕ) (beta : A) (ys : List A) → h + a ≤ top
      → IsWord F w (h + a) (d * 2 ^ a) ys
      → IsWord F w h d (folded_word F w h a beta ys)
  folded_word-degree h a d beta ys b y = record {
    polynomial = block_values F (2 ^ a) d y.polynomial beta;
    degree = length-block_values F (2 ^ a) d y.polynomial beta;
    values = ap (λ zs. folded_word F w h a beta zs) y.values
        ∙ folded_word-word h a d beta y.polynomial b y.degree;
  }

  -- in the words of any fold
  pub fold_value_lowers_degrees : LowersDegrees F w top (fold_value F w)
  unfolding folded_word
  fold_value_lowers_degrees = λ h a d beta ys b y. folded_word-degree h a d beta ys b y

-- and over an extension of the field that has the roots
pub two_adic_lowers_degrees : {A E : Type 0} (F : FieldOps A) (K : FieldOps E) (lift : A → E)
    → IsField F → IsField K → IsHomomorphism F K lift
    → (top : ℕ) (w : ℕ → A) → AreRoots F top w
    → LowersDegrees K (λ k. lift (w k)) top (fold_value K (λ k. lift (w k)))
two_adic_lowers_degrees F K lift L M H top w W =
    fold_value_lowers_degrees K M top (λ k. lift (w k)) (lifted_roots F K lift L M H top w W)
