-- The chunks of a quotient: their domains, and the quotient's value by theirs.
use Rattle.std.specs.Prelude.{◌≡◌, ◌≢◌, ℕ, ◌+◌, ◌^◌, ◌<◌, List, length, map, All, slice_index_or}
use Rattle.algebra.specs.Field.{FieldOps}
use Rattle.algebra.specs.Polynomial.{tabulate, sum_below}
use Rattle.algebra.specs.RecombinedQuotients.{ChunksApart, recombined_columns}
use Rattle.p3_field_core.specs.Coset.{coset_point}

module _ {A : Type 0} (F : FieldOps A) where
  -- the shifts of the `2^d` cosets of `2^k` points into which the coset of `shift` is split
  abbrev pub chunk_shifts : (w : ℕ → A) (shift : A) (k d : ℕ) → List A
  chunk_shifts w shift k d = tabulate (2 ^ d) (λ i. coset_point F (w (k + d)) shift i)

  -- cosets of one size, on none of which lies the first point of another
  pub record AreChunkDomains (log_sizes : List ℕ) (shifts : List A) : Type 0 where
    pub one_size : All (λ n. n ≡ slice_index_or log_sizes 0 0) log_sizes
    pub apart : ChunksApart F (length log_sizes) (slice_index_or log_sizes 0 0)
        (λ i. slice_index_or shifts i F.zero)

module _ {E : Type 0} (K : FieldOps E) where
  -- the sum of the first `d` values times the elements of a basis
  abbrev pub by_basis : (d : ℕ) (basis : ℕ → E) (values : List E) → E
  by_basis d basis values =
      sum_below K d (λ e. K.mul (basis e) (slice_index_or values e K.zero))

  -- the quotient's value at `z`, where the columns of its chunks, on the cosets of these shifts and
  -- of `2^k` points, have there the values `rows`, a row to a chunk: the columns are recombined,
  -- and are the quotient's coefficients by a basis of `d` elements
  abbrev pub quotient_at : (d : ℕ) (basis : ℕ → E) (k : ℕ) (shifts : List E)
      (rows : List (List E)) (z : E) → E
  quotient_at d basis k shifts rows z = by_basis d basis (recombined_columns K k shifts rows z)
