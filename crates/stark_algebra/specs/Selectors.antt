-- The polynomial that vanishes on a subgroup, and what selects a point of it, or all others.
use Rattle.std.specs.Prelude.{◌≡◌, ◌≢◌, ℕ}
use Rattle.algebra.specs.Field.{FieldOps, sub, pow}
use Rattle.stark_algebra.specs.Degrees.{HasDegreeBelow}

module _ {A : Type 0} (F : FieldOps A) where
  -- the value at `x` of `X^n - 1`
  abbrev pub zerofier : (n : ℕ) (x : A) → A
  zerofier n x = sub F (pow F x n) F.one

  -- the value at `x` of `(X^n - 1) / (X - r)`, where `x` isn't `r`
  abbrev pub point_selector : (n : ℕ) (r x : A) → A
  point_selector n r x = F.mul (zerofier n x) (F.inv (sub F x r))

  -- the value at `x` of `X - r`
  abbrev pub others_selector : (r x : A) → A
  others_selector r x = sub F x r

  -- the polynomial `t` of degree below `n` is `(X^n - 1) / (X - r)`: at the `n`-th root `r` of one
  -- it isn't zero, and at all others it is
  pub record IsSelector (n : ℕ) (r : A) (t : A → A) : Type 0 where
    pub degree : HasDegreeBelow F n t
    pub formula : (x : A) → x ≢ r → t x ≡ point_selector n r x
    pub elsewhere : (x : A) → x ≢ r → zerofier n x ≡ F.zero → t x ≡ F.zero
    pub there : t r ≢ F.zero
