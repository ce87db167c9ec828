-- Newton's form of a polynomial over given points.
use Rattle.std.specs.Prelude.{List, [], ◌∷◌, length, map, take, slice_index_or}
use Rattle.algebra.specs.Field.{FieldOps, sub}
use Rattle.algebra.specs.Polynomial.{tabulate}
use Rattle.algebra.specs.Interpolation.{plus_multiple}
use Rattle.algebra.specs.Products.{product}

module _ {A : Type 0} (F : FieldOps A) where
  -- the product of the differences of `x` from the points
  abbrev pub difference_product : A → List A → A
  difference_product x points = product F (map (λ p. sub F x p) points)

  -- for each point, the inverse of the product of its differences from the points before it
  abbrev pub weights_of : List A → List A
  weights_of points = tabulate (length points)
      (λ t. F.inv (difference_product (slice_index_or points t F.zero) (take t points)))

  -- the value at `x` of `c_0 + (X - p_0) * (c_1 + (X - p_1) * (c_2 + ..))`
  abbrev pub newton_val : (points coefficients : List A) → A → A
  newton_val ps [] x = F.zero
  newton_val [] (c ∷ cs) x = F.zero
  newton_val (p ∷ ps) (c ∷ cs) x = F.add c (F.mul (sub F x p) (newton_val ps cs x))

  -- the coefficients of that polynomial by powers of `X`
  abbrev pub expanded : (points coefficients : List A) → List A
  expanded ps [] = []
  expanded [] (c ∷ cs) = []
  expanded (p ∷ ps) (c ∷ cs) = plus_multiple F p c (expanded ps cs)
