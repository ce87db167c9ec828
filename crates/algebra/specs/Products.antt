-- Products of lists.
use Rattle.std.specs.Prelude.{List, [], ◌∷◌, length, take}
use Rattle.algebra.specs.Field.{FieldOps}
use Rattle.algebra.specs.Polynomial.{tabulate}

module _ {A : Type 0} (F : FieldOps A) where
  -- the product of the entries
  abbrev pub product : List A → A
  product [] = F.one
  product (x ∷ xs) = F.mul x (product xs)

  -- for each entry, the product of those before it
  abbrev pub running_products : List A → List A
  running_products xs = tabulate (length xs) (λ i. product (take i xs))
