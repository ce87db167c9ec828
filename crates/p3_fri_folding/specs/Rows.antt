-- What a row of any arity is folded by: half the inverse of its first point, from which those of
-- all its pairs come.
use Rattle.std.specs.Prelude.{◌≡◌, ℕ, suc, ◌+◌, ◌*◌, ◌^◌, ◌<◌, List, length, slice_index_or}
use Rattle.algebra.specs.Field.{FieldOps}
use Rattle.algebra.specs.Folds.{IsHalfInverse}

module _ {A : Type 0} (F : FieldOps A) (w : ℕ → A) where
  -- row `i`, of `2^(a + 1)` values, to log height `h`: half the inverse of the first point of its
  -- first pair, and the inverse of the root of as high an order as the row is wide
  pub record StartsRow (i h a : ℕ) (half root_inverse : A) : Type 0 where
    pub first_pair : IsHalfInverse F w (i * 2 ^ a) (h + a) half
    pub inverse : F.mul (w (suc a)) root_inverse ≡ F.one

  -- half the inverse of the first point of each row's first pair
  pub record AreFirstHalfInverses (h a : ℕ) (halves : List A) : Type 0 where
    pub count : length halves ≡ 2 ^ h
    pub each : (i : ℕ) (d : A) → i < 2 ^ h
        → IsHalfInverse F w (i * 2 ^ a) (h + a) (slice_index_or halves i d)
