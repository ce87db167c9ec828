-- The converse of a quotient by a point.
use Rattle.std.specs.Prelude.{◌≡◌, ◌≢◌, List}
use Rattle.algebra.specs.Field.{FieldOps, sub}
use Rattle.algebra.specs.Polynomial.{val}

module _ {A : Type 0} (F : FieldOps A) (shift z y : A) (q : List A) where
  -- `c` has at `z` the claimed value `y`, and of each value `u` at another point `shift * x` the
  -- quotient `(y - u) / (z - shift * x)` is the value of `q` at `x` only where `u` is that of `c`
  pub record IsUnquotient (c : List A) : Type 0 where
    pub claim : val F c z ≡ y
    pub values : (x u : A) → F.mul shift x ≢ z
        → F.mul (sub F y u) (F.inv (sub F z (F.mul shift x))) ≡ val F q x
        → u ≡ val F c (F.mul shift x)
