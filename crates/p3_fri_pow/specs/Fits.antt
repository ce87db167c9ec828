-- Lists whose numbers and lengths eight bytes hold.
use Rattle.std.specs.Prelude.{ℕ, List, length}
use Rattle.std.specs.List.{All}
use Rattle.p3_challenger_fs.specs.StreamLaws.{FitsNumber}

-- they hold the list's length, and each item is as `P` says
abbrev pub FitsList : {A : Type 0} → (A → Type 0) → List A → Type 0
FitsList P xs = FitsNumber (length xs) × All P xs

abbrev pub FitsPoints : List ℕ → Type 0
FitsPoints points = FitsList FitsNumber points
