-- Rows that lie one after another in one list.
use Rattle.std.specs.Prelude.{ℕ, ◌+◌, ◌*◌, ◌/◌, List, length, slice_range}
use Rattle.algebra.specs.Polynomial.{tabulate}

-- the rows of `width` entries each, from the first on
unfoldable pub rows_of : {A : Type 0} → ℕ → List A → List (List A)
rows_of width values =
    tabulate (length values / width) (λ i. slice_range values (i * width) (i * width + width))
