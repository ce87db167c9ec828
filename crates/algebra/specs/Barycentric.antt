-- The value at a point off a coset, from the values over the coset.
use Rattle.std.specs.Prelude.{ℕ, ◌^◌, List, slice_index_or}
use Rattle.algebra.specs.Field.{FieldOps, sub, multiple}
use Rattle.algebra.specs.Polynomial.{sum_below}
use Rattle.algebra.specs.Cosets.{coset_pt, vanishing}

module _ {A E : Type 0} (F : FieldOps A) (K : FieldOps E) (lift : A → E)
    (w : ℕ → A) (shift : A) (k : ℕ) where
  -- the weight of the coset's `i`-th point `x`, in bit-reversed order: `x / (z - x)`
  abbrev pub barycentric_weight : (z : E) (i : ℕ) → E
  barycentric_weight z i =
      let x = lift (coset_pt F w shift i k) in
      K.mul x (K.inv (sub K z x))

  -- `((z / shift)^n - 1) / n`, for the coset of `n = 2^k` points
  abbrev pub barycentric_factor : (z : E) → E
  barycentric_factor z = K.mul (vanishing K (lift shift) k z) (K.inv (multiple K (2 ^ k)))

  -- that factor, times the sum of the first `n` of the values `ys`, each times its point's weight
  abbrev pub barycentric : (ys : List A) (z : E) → E
  barycentric ys z =
      K.mul (barycentric_factor z)
      (sum_below K (2 ^ k)
      (λ i. K.mul (barycentric_weight z i) (lift (slice_index_or ys i F.zero))))
