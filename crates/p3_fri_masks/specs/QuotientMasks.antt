-- The masks of a quotient's chunks. A mask has `2^k` rows of coefficients, as many to a row as its
-- chunk has columns, and is one list, row after row.
use Rattle.std.specs.Prelude.{◌≡◌, ◌≢◌, ◌<◌, ℕ, suc, List, [], ◌∷◌, ◌++◌, length, map}
use Rattle.std.specs.Prelude.{replicate, All, slice_index_or}
use Rattle.algebra.specs.Field.{FieldOps}
use Rattle.algebra.specs.Cosets.{vanishing}
use Rattle.algebra.specs.Polynomial.{tabulate}
use Rattle.algebra.specs.RecombinedQuotients.{ChunksApart, chunk_weight, combined}

module _ {A : Type 0} (F : FieldOps A) where
  -- the cosets of these shifts have one size, `2^k`, and are disjoint: the polynomial that vanishes
  -- on one isn't zero at the first point of another
  pub record AreDisjoint (log_sizes : List ℕ) (shifts : List A) : Type 0 where
    pub one_size : All (λ n. n ≡ slice_index_or log_sizes 0 0) log_sizes
    pub apart : ChunksApart F (length log_sizes) (slice_index_or log_sizes 0 0)
        (λ i. slice_index_or shifts i F.zero)

  -- the first point of coset `i` is on no other, which is to say that no polynomial that vanishes
  -- on another is zero there
  abbrev pub IsOffOthers : (log_sizes : List ℕ) (shifts : List A) (i : ℕ) → Type 0
  IsOffOthers log_sizes shifts i = (j : ℕ) → j < length shifts → j ≢ i
      → vanishing F (slice_index_or shifts j F.zero) (slice_index_or log_sizes j 0)
      (slice_index_or shifts i F.zero) ≢ F.zero

  -- for each but the last of `m + 1` chunks `c_i / c_last`, with `c_i` the inverse of the product
  -- over the other chunks of their vanishing polynomials at the first point of chunk `i`'s coset
  abbrev pub mask_factors : (m k : ℕ) (shifts : List A) → List A
  mask_factors m k shifts = tabulate m (λ i.
      F.mul (chunk_weight F (suc m) k (λ j. slice_index_or shifts j F.zero) i)
      (F.inv (chunk_weight F (suc m) k (λ j. slice_index_or shifts j F.zero) m)))

  -- minus the sum of the first `m` masks, of `size` coefficients each, times their factors
  abbrev pub balancing_mask : (m size : ℕ) (factors : List A) (masks : List (List A)) → List A
  balancing_mask m size factors masks = map (λ a. F.mul (F.neg F.one) a)
      (combined F m (λ i. slice_index_or factors i F.zero) (λ i. slice_index_or masks i [])
      (replicate size F.zero))

  -- the masks of `m + 1` chunks on the cosets of these shifts and of `2^k` points: the given ones,
  -- and last the one that makes the recombined quotient what it was
  abbrev pub quotient_masks : (m k size : ℕ) (shifts : List A) (masks : List (List A))
      → List (List A)
  quotient_masks m k size shifts masks =
      masks ++ balancing_mask m size (mask_factors m k shifts) masks ∷ []
