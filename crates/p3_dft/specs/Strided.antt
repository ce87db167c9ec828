-- The same columns where the rows lie one after another in one list.
use Rattle.std.specs.Prelude.{◌≡◌, ℕ, ◌+◌, ◌-◌, ◌*◌, ◌^◌, ◌<◌, List, slice_index_or}
use Rattle.algebra.specs.Field.{FieldOps, pow}
use Rattle.algebra.specs.Polynomial.{val, tabulate}

module _ {A : Type 0} (F : FieldOps A) where
  -- every `width`-th entry from place `j` on, `height` of them
  abbrev pub strided : (width height : ℕ) (xs : List A) (j : ℕ) → List A
  strided width height xs j = tabulate height (λ i. slice_index_or xs (i * width + j) F.zero)

  -- row `i` of `ys`, of `width` entries, holds the values at `x^i` of the polynomials in the
  -- columns of `xs`
  abbrev pub HoldsValues : (x : A) (width height : ℕ) (xs ys : List A) → Type 0
  HoldsValues x width height xs ys = (i j : ℕ) → i < height → j < width
      → slice_index_or ys (i * width + j) F.zero ≡ val F (strided width height xs j) (pow F x i)

  -- `ys` is what `s` of the `k` layers of a transform make of the coefficients `xs`: the values of
  -- the polynomials of every `2^(k-s)`-th coefficients at the powers of a root of order `2^s`
  unfoldable pub AfterLayers : (root : A) (width k s : ℕ) (xs ys : List A) → Type 0
  AfterLayers root width k s xs ys =
      HoldsValues (pow F root (2 ^ (k - s))) (2 ^ (k - s) * width) (2 ^ s) xs ys
