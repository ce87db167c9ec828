-- The polynomial through given points.
use Rattle.std.specs.Prelude.{◌≡◌, ◌≢◌, List, [], ◌∷◌, length, map, AllPairs}
use Rattle.algebra.specs.Field.{FieldOps, sub}
use Rattle.algebra.specs.Polynomial.{val}

-- no two of the points are equal
abbrev pub AreDistinct : {A : Type 0} → List A → Type 0
AreDistinct xs = AllPairs (λ x y. x ≢ y) xs

-- `c` has as many coefficients as there are points `xs`, and at these the values `ys`
pub record Interpolates {A : Type 0} (F : FieldOps A) (xs ys c : List A) : Type 0 where
  pub count : length c ≡ length xs
  pub values : map (λ x. val F c x) xs ≡ ys

module _ {A : Type 0} (F : FieldOps A) where
  -- the polynomial `y + (X - r) * q`
  abbrev pub plus_multiple : A → A → List A → List A
  plus_multiple r y [] = y ∷ []
  plus_multiple r y (q ∷ qs) = sub F y (F.mul r q) ∷ plus_multiple r q qs

  -- the slopes from the point `x` with the value `y` to the other points
  abbrev pub slopes : A → A → List A → List A → List A
  slopes x y [] ys = []
  slopes x y (a ∷ xs) [] = []
  slopes x y (a ∷ xs) (b ∷ ys) = F.mul (sub F b y) (F.inv (sub F a x)) ∷ slopes x y xs ys

  -- the interpolating polynomial, by Newton's divided differences
  abbrev pub interpolant : List A → List A → List A
  interpolant [] ys = []
  interpolant (x ∷ xs) [] = []
  interpolant (x ∷ xs) (y ∷ ys) = plus_multiple x y (interpolant xs (slopes x y xs ys))
