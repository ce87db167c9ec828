-- The values of periodic columns at a point.
use Rattle.std.specs.Prelude.{◌≡◌, ◌^◌, ℕ, List, length, map}
use Rattle.std.specs.declared.vec.Vec.{Vec}
use Rattle.algebra.specs.Field.{FieldOps}
use Rattle.algebra.specs.Periodic.{periodic_value}

module _ {E : Type 0} (K : FieldOps E) (w : ℕ → E) (log_rows : ℕ) (z : E) where
  -- `value` is at `z` that of this column, whose length is a power of two, along `2^log_rows` rows
  unfoldable pub IsValueOf : (column : List E) (value : E) → Type 0
  IsValueOf column value =
      (k : ℕ) → length column ≡ 2 ^ k → value ≡ periodic_value K w k log_rows column z

  -- the same of a column over the field that `lift` takes into this one
  abbrev pub IsValueAt : {F A : Type 0} (lift : F → E) (column : Vec F A) (value : E) → Type 0
  IsValueAt lift column value = IsValueOf (map lift column.items) value

  -- the same of a column over this field
  abbrev pub IsColumnValue : {A : Type 0} (column : Vec E A) (value : E) → Type 0
  IsColumnValue column value = IsValueOf column.items value
