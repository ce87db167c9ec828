-- A digest beside its sibling.
use Rattle.std.specs.Prelude.{ℕ, ◌%◌, ◌==◌, List, ◌++◌, if◌then◌else◌}

-- the two in order: the digest at an even index of its layer is the left one
abbrev pub children_of : ℕ → List ℕ → List ℕ → List ℕ
children_of index digest sibling =
    if index % 2 == 0 then digest ++ sibling else sibling ++ digest
