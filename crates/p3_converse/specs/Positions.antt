-- Lists one after another, and the coefficients of several polynomials position by position.
use Rattle.std.specs.Prelude.{ℕ, zero, suc, ◌+◌, ◌*◌, List, [], ◌++◌, map}
use Rattle.std.specs.Prelude.{slice_index_or, slice_range}
use Rattle.algebra.specs.Field.{FieldOps}
use Rattle.algebra.specs.Polynomial.{tabulate}
use Rattle.algebra.specs.Interpolation.{interpolant}

-- the lists `f 0, .., f (n - 1)`, one after another
abbrev pub concatenated : {A : Type 0} → ℕ → (ℕ → List A) → List A
concatenated zero f = []
concatenated (suc n) f = f zero ++ concatenated n (λ i. f (suc i))

-- the `m`-th of the lists of length `a` that stand in `xs`, one after another
abbrev pub part : {A : Type 0} → List A → ℕ → ℕ → List A
part xs m a = slice_range xs (m * a) (m * a + a)

module _ {A : Type 0} (F : FieldOps A) where
  -- the coefficients that the polynomials have at position `m`
  abbrev pub coefficients_at : (polys : List (List A)) → ℕ → List A
  coefficients_at polys m = map (λ p. slice_index_or p m F.zero) polys

  -- those at position 0, then those at position 1, and so on, `d` times
  abbrev pub interleaved : (polys : List (List A)) → ℕ → List A
  interleaved polys d = concatenated d (coefficients_at polys)

  -- position by position, the coefficients of the polynomial through the points and what the
  -- polynomials have at that position
  abbrev pub interpolated : (points : List A) (polys : List (List A)) → ℕ → List A
  interpolated points polys d =
      concatenated d (λ m. interpolant F points (coefficients_at polys m))

  -- the entries at `start`, `start + step` and so on, `count` of them
  abbrev pub stepped : (entries : List A) (start step count : ℕ) → List A
  stepped entries start step count =
      tabulate count (λ m. slice_index_or entries (m * step + start) F.zero)
