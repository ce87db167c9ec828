-- Lists in vectors, lists of lists, and lists one after the other.
use Rattle.std.specs.Prelude.{List, map}
use Rattle.std.specs.List.{flat_map}
use Rattle.std.specs.declared.vec.Vec.{Vec}

-- the lists in these vectors
abbrev pub lists : {T A : Type 0} → List (Vec T A) → List (List T)
lists vectors = map (λ vector. vector.items) vectors

-- the lists of lists in these vectors of vectors
abbrev pub nested : {T A B : Type 0} → List (Vec (Vec T A) B) → List (List (List T))
nested vectors = map (λ vector. lists vector.items) vectors

-- the elements of these lists, in order
abbrev pub joined : {T : Type 0} → List (List T) → List T
joined parts = flat_map (λ part. part) parts
