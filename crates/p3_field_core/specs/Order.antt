-- The order of an element, and what the law functions say.
use Rattle.std.specs.Prelude.{◌≡◌, ◌≢◌, ℕ, ◌<◌}
use Rattle.algebra.specs.Field.{FieldOps, pow}

-- `n` is the least positive number for which `x^n` is one
pub record HasOrder {A : Type 0} (F : FieldOps A) (x : A) (n : ℕ) : Type 0 where
  pub turns : pow F x n ≡ F.one
  pub least : (m : ℕ) → 0 < m → m < n → pow F x m ≢ F.one
