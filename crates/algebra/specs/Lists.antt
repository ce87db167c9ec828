-- Lists of elements, entry by entry.
use Rattle.std.specs.Prelude.{List, [], ◌∷◌}
use Rattle.algebra.specs.Field.{FieldOps}

module _ {A : Type 0} (F : FieldOps A) where
  -- the sums of the entries at each place that both lists have
  abbrev pub add_lists : List A → List A → List A
  add_lists [] ds = []
  add_lists (c ∷ cs) [] = []
  add_lists (c ∷ cs) (d ∷ ds) = F.add c d ∷ add_lists cs ds
