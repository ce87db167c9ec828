-- The value at zero, by the barycentric sum.
use Rattle.std.specs.Prelude.{◌≡◌, ◌≢◌, ℕ, ◌≤◌, ◌^◌, List, length, slice_index_or}
use Rattle.algebra.specs.Field.{FieldOps}
use Rattle.algebra.specs.Cosets.{IsOffCoset}
use Rattle.algebra.specs.Words.{coset_word}
use Rattle.algebra.specs.Barycentric.{barycentric}

-- zero lies off the coset, and the sum there is the coefficient of one
pub record IsValueAtZero {A E : Type 0} (F : FieldOps A) (K : FieldOps E) (lift : A → E)
    (w : ℕ → A) (shift : A) (k : ℕ) (c : List A) : Type 0 where
  pub off : IsOffCoset F lift w shift k K.zero
  pub value : barycentric F K lift w shift k (coset_word F w shift k c) K.zero
      ≡ lift (slice_index_or c 0 F.zero)

abbrev pub ValuesAtZero : {A E : Type 0} (F : FieldOps A) (K : FieldOps E) (lift : A → E)
    (top : ℕ) (w : ℕ → A) → Type 0
ValuesAtZero {A} F K lift top w = (shift : A) → shift ≢ F.zero → (k : ℕ) → k ≤ top
    → (c : List A) → length c ≤ 2 ^ k → IsValueAtZero F K lift w shift k c
