-- The converse of folding.
use Rattle.std.specs.Prelude.{◌≡◌, ℕ, ◌+◌, ◌*◌, ◌^◌, ◌<◌, ◌≤◌, List, [], ◌∷◌, length, map, vec_len}
use Rattle.std.specs.Prelude.{take, slice_index_or}
use Rattle.std.specs.declared.vec.Vec.{Vec}
use Rattle.algebra.specs.Field.{FieldOps, pow}
use Rattle.algebra.specs.Polynomial.{val, tabulate}
use Rattle.algebra.specs.TwoAdic.{AreRoots, pt}
use Rattle.p3_fri_core.specs.Folds.{fold_value}
use Rattle.p3_converse.specs.Batching.{unbatched}
use Rattle.p3_converse.specs.Positions.{interleaved}

-- the length of the first vector, where all have one length
abbrev pub common_length : {T Z : Type 0} → List (Vec T Z) → ℕ
common_length [] = 0
common_length (v ∷ vs) = vec_len v

module _ {A : Type 0} (F : FieldOps A) (w : ℕ → A) (i h : ℕ) where
  -- the values of the polynomial at the `2^k` points of row `i` over log height `h`
  abbrev pub row_values : (k : ℕ) → List A → List A
  row_values k c = tabulate (2 ^ k) (λ j. val F c (pt F w (i * 2 ^ k + j) (h + k)))

  -- row `i`, of the values `ys`, folds to log height `h` at each beta to the value of the
  -- polynomial beside it
  abbrev pub FoldsTo : (k : ℕ) (ys betas : List A) (polys : List (List A)) → Type 0
  FoldsTo k ys betas polys =
      map (λ beta. fold_value F w i h k beta ys) betas ≡ map (λ p. val F p (pt F w i h)) polys

  -- the same with the value `u` of an input that is rolled in: `beta^(2^k) * u` comes to each fold
  abbrev pub FoldsWithInput : (k : ℕ) (ys : List A) (u : A) (betas : List A) (polys : List (List A))
      → Type 0
  FoldsWithInput k ys u betas polys =
      map (λ beta. F.add (fold_value F w i h k beta ys) (F.mul (pow F beta (2 ^ k)) u)) betas
      ≡ map (λ p. val F p (pt F w i h)) polys

module _ {A : Type 0} (F : FieldOps A) where
  -- over every family of roots of unity, each row of `2^k` values that folds at the betas to the
  -- polynomials has the values of `unfolded` at its points
  pub record IsUnfolding (k : ℕ) (betas : List A) (polys : List (List A)) (unfolded : List A)
      : Type 0 where
    pub rows : (top : ℕ) (w : ℕ → A) → AreRoots F top w
        → (i h : ℕ) (ys : List A) → h + k ≤ top → i < 2 ^ h → length ys ≡ 2 ^ k
        → FoldsTo F w i h k ys betas polys → ys ≡ row_values F w i h k unfolded

  -- the same with an input: the row has the values of `word` at its points, and the input that of
  -- `input` at the point of the folded domain
  pub record IsUnfoldingWithInput (k : ℕ) (betas : List A) (polys : List (List A)) (word : List A)
      (input : List A) : Type 0 where
    pub rows : (top : ℕ) (w : ℕ → A) → AreRoots F top w
        → (i h : ℕ) (ys : List A) (u : A) → h + k ≤ top → i < 2 ^ h → length ys ≡ 2 ^ k
        → FoldsWithInput F w i h k ys u betas polys
        → (ys ≡ row_values F w i h k word) × (u ≡ val F input (pt F w i h))

  -- the word's polynomial of a round with an input: the first `2^k` of the unbatched polynomials,
  -- of `d` coefficients each, position by position
  abbrev pub unfolded_word : (k : ℕ) (betas : List A) (polys : List (List A)) (d : ℕ) → List A
  unfolded_word k betas polys d = interleaved F (take (2 ^ k) (unbatched F betas polys d)) d

  -- the input's polynomial of that round: the unbatched one after those of the word
  abbrev pub unfolded_input : (k : ℕ) (betas : List A) (polys : List (List A)) (d : ℕ) → List A
  unfolded_input k betas polys d = slice_index_or (unbatched F betas polys d) (2 ^ k) []
