-- Quotients of opened columns, and batches by powers of one element.
use Rattle.std.specs.Prelude.{◌≡◌, ℕ, ◌^◌, List, [], ◌∷◌, length, map, flat_map, slice_index_or}
use Rattle.std.specs.Prelude.{All}
use Rattle.algebra.specs.Field.{FieldOps, sub}
use Rattle.algebra.specs.Polynomial.{val, tabulate}
use Rattle.algebra.specs.Cosets.{coset_pt, IsOffCoset}

module _ {A : Type 0} (F : FieldOps A) where
  -- `(y - v) / (z - x)` for each value `y` at `z` and the value `v` at `x` beside it
  abbrev pub quotients : (z x : A) (ys vs : List A) → List A
  quotients z x [] vs = []
  quotients z x (y ∷ ys) [] = []
  quotients z x (y ∷ ys) (v ∷ vs) = F.mul (sub F y v) (F.inv (sub F z x)) ∷ quotients z x ys vs

  -- the batch of words of `n` entries: at each place, the sum of word `t`'s entry times `alpha^t`
  abbrev pub batch : (n : ℕ) (alpha : A) (words : List (List A)) → List A
  batch n alpha words = tabulate n (λ i. val F (map (λ ys. slice_index_or ys i F.zero) words) alpha)

-- a matrix, by the polynomials of its columns, and the points at which it is opened
pub record Opened (A E : Type 0) : Type 0 where
  pub columns : List (List A)
  pub points : List E

-- its columns have degrees below `d`, and none of its points lies on the coset
pub record IsOpenedOff {A E : Type 0} (F : FieldOps A) (lift : A → E) (w : ℕ → A) (shift : A)
    (k d : ℕ) (m : Opened A E) : Type 0 where
  pub degrees : All (λ c. length c ≡ d) m.columns
  pub off : All (λ z. IsOffCoset F lift w shift k z) m.points

module _ {A E : Type 0} (F : FieldOps A) (K : FieldOps E) (lift : A → E) where
  -- the columns' values at `z`
  abbrev pub values_at : (columns : List (List A)) (z : E) → List E
  values_at columns z = map (λ c. val K (map lift c) z) columns

  -- the columns' entries at the point `x` of the base field
  abbrev pub row_at : (columns : List (List A)) (x : A) → List E
  row_at columns x = map (λ c. lift (val F c x)) columns

  -- a matrix's quotients at `x`, point by point
  abbrev pub opened_quotients : (x : A) → Opened A E → List E
  opened_quotients x m =
      flat_map (λ z. quotients K z (lift x) (values_at m.columns z) (row_at m.columns x)) m.points

  -- the word of the matrices' quotients over the coset, by powers of `alpha` that go on from one
  -- matrix to the next
  abbrev pub quotient_word : (w : ℕ → A) (shift : A) (k : ℕ) (alpha : E) (ms : List (Opened A E))
      → List E
  quotient_word w shift k alpha ms =
      tabulate (2 ^ k) (λ i. val K (flat_map (opened_quotients (coset_pt F w shift i k)) ms) alpha)
