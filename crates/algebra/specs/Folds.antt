-- Folds of rows and of words, over any field with a family of roots of unity.
use Rattle.std.specs.Prelude.{◌≡◌, ℕ, zero, suc, ◌+◌, ◌*◌, ◌-◌, ◌^◌, ◌<◌, ◌≤◌, List, [], ◌∷◌}
use Rattle.std.specs.Prelude.{length, slice_range, slice_index_or}
use Rattle.algebra.specs.Field.{FieldOps}
use Rattle.algebra.specs.Polynomial.{val, tabulate}
use Rattle.algebra.specs.Interpolation.{interpolant}
use Rattle.algebra.specs.TwoAdic.{pt, row_points}
use Rattle.algebra.specs.Words.{IsWord}

module _ {A : Type 0} where
  -- row `i` of `2^a` neighbours of a word
  abbrev pub neighbours : (ys : List A) (i a : ℕ) → List A
  neighbours ys i a = slice_range ys (i * 2 ^ a) (i * 2 ^ a + 2 ^ a)

  -- the word of log height `h` to which a word of log height `h + a` folds at `beta`, row by row,
  -- where `fold` gives the fold of a row
  abbrev pub folded_by :
      (fold : ℕ → ℕ → ℕ → A → List A → A) (h a : ℕ) (beta : A) (ys : List A) → List A
  folded_by fold h a beta ys = tabulate (2 ^ h) (λ i. fold i h a beta (neighbours ys i a))

module _ {A : Type 0} (F : FieldOps A) (w : ℕ → A) where
  -- the fold at `beta` of row `i`, of `2^a` values, to log height `h`: the value at `beta` of the
  -- one polynomial of `2^a` coefficients that has the row's values at the row's points
  unfoldable pub fold_value : (i h a : ℕ) (beta : A) (ys : List A) → A
  fold_value i h a beta ys = val F (interpolant F (row_points F w i a h) ys) beta

  -- the word of log height `h` to which a word of log height `h + a` folds at `beta`, row by row
  unfoldable pub folded_word : (h a : ℕ) (beta : A) (ys : List A) → List A
  folded_word h a beta ys = folded_by fold_value h a beta ys

  -- a word of log height `k`, folded round by round by the log arities, each at its challenge
  abbrev pub folded_rounds : (k : ℕ) (log_arities : List ℕ) (betas ys : List A) → List A
  folded_rounds k [] betas ys = ys
  folded_rounds k (a ∷ log_arities) [] ys = ys
  folded_rounds k (a ∷ log_arities) (beta ∷ betas) ys =
      folded_rounds (k - a) log_arities betas (folded_word (k - a) a beta ys)

  -- row `i`, of `2^(b + a)` values, when each `2^a` neighbours in it are folded at `beta`: as many
  -- values as row `i` of `2^b` has
  abbrev pub partly_folded : (i h b a : ℕ) (beta : A) (ys : List A) → List A
  partly_folded i h b a beta ys =
      tabulate (2 ^ b) (λ m. fold_value (i * 2 ^ b + m) (h + b) a beta (neighbours ys m a))

  -- row `i`, of `2^a` values, folded `a` times by two, pair by pair: at `beta`, `beta^2`, `beta^4`
  -- and so on
  abbrev pub binary_folds : (i h a : ℕ) (beta : A) (ys : List A) → List A
  binary_folds i h zero beta ys = ys
  binary_folds i h (suc a) beta ys =
      binary_folds i h a (F.mul beta beta) (partly_folded i h a 1 beta ys)

  -- the row's fold is the one value that its binary folds leave
  abbrev pub IsFoldOfBinaryFolds : (i h a : ℕ) (beta : A) (ys : List A) → Type 0
  IsFoldOfBinaryFolds i h a beta ys =
      binary_folds i h a beta ys ≡ fold_value i h a beta ys ∷ []

  -- where `fold` gives the fold of a row, the values of a polynomial of degree below `d * 2^a`, in
  -- rows of `2^a` neighbours, fold to the values of one of degree below `d`
  abbrev pub LowersDegrees : (top : ℕ) (fold : ℕ → ℕ → ℕ → A → List A → A) → Type 0
  LowersDegrees top fold = (h a d : ℕ) (beta : A) (ys : List A) → h + a ≤ top
      → IsWord F w (h + a) (d * 2 ^ a) ys → IsWord F w h d (folded_by fold h a beta ys)

  -- `half` is half the inverse of the first point of row `i`, of two values, over a word of log
  -- height `h`
  abbrev pub IsHalfInverse : (i h : ℕ) (half : A) → Type 0
  IsHalfInverse i h half = F.mul (pt F w (i + i) (suc h)) (F.add half half) ≡ F.one

  -- the list of these for each row
  pub record AreHalfInverses (h : ℕ) (halves : List A) : Type 0 where
    pub count : length halves ≡ 2 ^ h
    pub each : (i : ℕ) (d : A) → i < 2 ^ h → IsHalfInverse i h (slice_index_or halves i d)
