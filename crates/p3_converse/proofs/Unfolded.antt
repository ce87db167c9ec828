-- The converse of folding: one polynomial for all rows.
use Rattle.std.proofs.Common.{◌≡◌, ℕ, ◌+◌, ◌*◌, ◌^◌, ◌<◌, ◌≤◌, List, [], ◌∷◌, ◌++◌, length, get_or, map, refl, sym, ap, ap₂, ◌∙◌, arith, length-append}
use Rattle.std.proofs.lemmas.List.{map-append, length-map}
use Rattle.algebra.specs.Field.{FieldOps, IsField, pow}
use Rattle.algebra.specs.Polynomial.{val}
use Rattle.algebra.specs.Interpolation.{AreDistinct, Interpolates, interpolant}
use Rattle.algebra.specs.TwoAdic.{AreRoots, pt, row_points}
use Rattle.algebra.proofs.Lists.{Each, length-tabulate, map-tabulate, tabulate-equal, distinct_from_AllPairs}
use Rattle.algebra.proofs.Interpolation.{interpolant_interpolates}
use Rattle.algebra.proofs.Points.{row-power, row_distinct}
use Rattle.algebra.proofs.Blocks.{block_values, val-blocks, val-block_sum}
use Rattle.p3_fri_core.specs.Folds.{fold_value}
use Rattle.p3_converse.specs.Positions.{interleaved, interpolated}
use Rattle.p3_converse.specs.Unfolding.{row_values, IsUnfolding, FoldsWithInput, IsUnfoldingWithInput}
use Rattle.p3_converse.specs.Batching.{IsUnbatching}
use Rattle.p3_converse.proofs.Interpolated.{length-interpolated, only_block_sum}
use Rattle.p3_converse.proofs.Blocks.{val-interleaved}
use Rattle.p3_converse.proofs.NewtonForm.{map-equal}
use Rattle.algebra.proofs.Values.{val-append, val-one}
use Rattle.algebra.proofs.Lists.{head_eq, tail_eq}

-- row `i` over log height `h`: the polynomial through its values
module _ {A : Type 0} (F : FieldOps A) (L : IsField F) (top : ℕ) (w : ℕ → A) (W : AreRoots F top w)
    (i h k : ℕ) (ys : List A) (within : h + k ≤ top) (below : i < 2 ^ h) (long : length ys ≡ 2 ^ k) where
  abbrev pub row_polynomial : List A
  row_polynomial = interpolant F (row_points F w i k h) ys

  row_interpolates : Interpolates F (row_points F w i k h) ys row_polynomial
  row_interpolates =
      interpolant_interpolates F L (row_points F w i k h) ys (length-tabulate (2 ^ k) (λ j. pt F w (i * 2 ^ k + j) (h + k)) ∙ sym long)
      (distinct_from_AllPairs (row_points F w i k h) (row_distinct F L top w W i k h within below))

  pub length-row_polynomial : length row_polynomial ≡ 2 ^ k
  length-row_polynomial = row_interpolates.count ∙ length-tabulate (2 ^ k) (λ j. pt F w (i * 2 ^ k + j) (h + k))

  -- a polynomial that agrees with it at the row's points has the row's values
  pub row_from_points : (c : List A) → ((j : ℕ) → j < 2 ^ k → val F row_polynomial (pt F w (i * 2 ^ k + j) (h + k)) ≡ val F c (pt F w (i * 2 ^ k + j) (h + k)))
      → ys ≡ row_values F w i h k c
  row_from_points c agree =
      sym row_interpolates.values
      ∙ map-tabulate (λ x. val F row_polynomial x) (2 ^ k) (λ j. pt F w (i * 2 ^ k + j) (h + k))
      ∙ tabulate-equal (2 ^ k) (λ j. val F row_polynomial (pt F w (i * 2 ^ k + j) (h + k))) (λ j. val F c (pt F w (i * 2 ^ k + j) (h + k))) agree

module _ {A : Type 0} (F : FieldOps A) (L : IsField F) (k d : ℕ) (betas : List A) (polys : List (List A)) (distinct : AreDistinct betas)
    (arity : length betas ≡ 2 ^ k) (as_many : length polys ≡ 2 ^ k) (one_length : Each (λ p. length p ≡ d) polys) where
  pub is_unfolding : IsUnfolding F k betas polys (interpolated F betas polys d)
  unfolding fold_value
  is_unfolding = record {
    rows = λ top w W i h ys within below long folds.
        let unfolded = interpolated F betas polys d in
        let size = length-interpolated F L (2 ^ k) d betas polys distinct arity as_many one_length in
        row_from_points F L top w W i h k ys within below long unfolded (λ j l.
        let x = pt F w (i * 2 ^ k + j) (h + k) in
        ap (λ c. val F c x)
        (only_block_sum F L (2 ^ k) d betas polys distinct arity as_many one_length (pt F w i h) (row_polynomial F L top w W i h k ys within below long)
        (length-row_polynomial F L top w W i h k ys within below long) folds)
        ∙ val-block_sum F L.ring (2 ^ k) d unfolded (pt F w i h) x size
        ∙ ap (λ y. val F (block_values F (2 ^ k) d unfolded x) y) (sym (row-power F L top w W i j k h l within))
        ∙ sym (val-blocks F L.ring (2 ^ k) d unfolded x size));
  }

-- lists that end in one entry more
same_ends : {A : Type 0} (xs ys : List A) (x y : A) → length xs ≡ length ys → xs ++ x ∷ [] ≡ ys ++ y ∷ [] → (xs ≡ ys) × (x ≡ y)
same_ends [] [] x y n e = (refl, head_eq e)
same_ends [] (b ∷ ys) x y n e = absurd (omega (arith, n))
same_ends (a ∷ xs) [] x y n e = absurd (omega (arith, n))
same_ends (a ∷ xs) (b ∷ ys) x y n e =
    let later = same_ends xs ys x y (omega (arith, n)) (tail_eq e) in
    (ap₂ (λ c cs. c ∷ cs) (head_eq e) later.0, later.1)

module _ {A : Type 0} (F : FieldOps A) (L : IsField F) (k d : ℕ) (betas : List A) (polys parts : List (List A)) (input : List A)
    (arity : length betas ≡ 2 ^ k + 1) (count : length parts ≡ 2 ^ k) (one_length : (s : ℕ) (e : List A) → s < length parts → length (get_or parts s e) ≡ d)
    (unbatched : IsUnbatching F betas polys (parts ++ input ∷ [])) where
  infixl 65 ◌⊕◌
  infixl 70 ◌⊗◌
  open F use {add as ◌⊕◌, mul as ◌⊗◌}

  module _ (top : ℕ) (w : ℕ → A) (W : AreRoots F top w) (i h : ℕ) (ys : List A) (u : A) (within : h + k ≤ top) (below : i < 2 ^ h) (long : length ys ≡ 2 ^ k)
      (folds : FoldsWithInput F w i h k ys u betas polys) where
    abbrev x₀ : A
    x₀ = pt F w i h

    abbrev row : List A
    row = row_polynomial F L top w W i h k ys within below long

    -- the row's coefficients, and then the input's value, are what was batched
    together : row ++ u ∷ [] ≡ map (λ p. val F p x₀) parts ++ val F input x₀ ∷ []
    unfolding fold_value
    together =
        unbatched.values x₀ (row ++ u ∷ []) (length-append row (u ∷ []) ∙ ap (λ n. n + 1) (length-row_polynomial F L top w W i h k ys within below long) ∙ sym arity)
        (map-equal (λ b. val F (row ++ u ∷ []) b) (λ b. val F row b ⊕ pow F b (2 ^ k) ⊗ u) betas
        (λ t e l. let b = get_or betas t e in
        val-append F L.ring row (u ∷ []) b ∙ ap₂ (λ n v. val F row b ⊕ pow F b n ⊗ v) (length-row_polynomial F L top w W i h k ys within below long) (val-one F L.ring u b))
        ∙ folds)
        ∙ map-append (λ p. val F p x₀) parts (input ∷ [])

    apart : (row ≡ map (λ p. val F p x₀) parts) × (u ≡ val F input x₀)
    apart = same_ends row (map (λ p. val F p x₀) parts) u (val F input x₀) (length-row_polynomial F L top w W i h k ys within below long ∙ sym (length-map parts (λ p. val F p x₀) ∙ count)) together

    of_row : ys ≡ row_values F w i h k (interleaved F parts d)
    of_row = row_from_points F L top w W i h k ys within below long (interleaved F parts d) (λ j l.
        let x = pt F w (i * 2 ^ k + j) (h + k) in
        ap (λ c. val F c x) (apart.0 ∙ ap (λ y. map (λ p. val F p y) parts) (sym (row-power F L top w W i j k h l within)))
        ∙ sym (val-interleaved F L.ring (2 ^ k) d parts x count one_length))

    of_input : u ≡ val F input x₀
    of_input = apart.1

  pub is_unfolding_with_input : IsUnfoldingWithInput F k betas polys (interleaved F parts d) input
  is_unfolding_with_input = record {
    rows = λ top w W i h ys u within below long folds.
        (of_row top w W i h ys u within below long folds, of_input top w W i h ys u within below long folds);
  }
