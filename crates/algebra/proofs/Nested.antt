-- Lists in vectors, by number and by place.
use Rattle.std.proofs.Common.{◌≡◌, ℕ, ◌<◌, List, [], length, get_or}
use Rattle.std.proofs.lemmas.List.{length-map, get_or-map}
use Rattle.std.specs.declared.vec.Vec.{Vec}
use Rattle.algebra.specs.Nested.{lists, nested}

module _ {T A : Type 0} where
  pub length-lists : (vectors : List (Vec T A)) → length (lists vectors) ≡ length vectors
  length-lists vectors = length-map vectors (λ vector. vector.items)

  pub lists_at : (vectors : List (Vec T A)) (k : ℕ) (d : Vec T A) → k < length vectors
      → get_or (lists vectors) k [] ≡ (get_or vectors k d).items
  lists_at vectors k d l = get_or-map (λ vector. vector.items) vectors k d [] l

module _ {T A B : Type 0} where
  pub length-nested : (vectors : List (Vec (Vec T A) B)) → length (nested vectors) ≡ length vectors
  length-nested vectors = length-map vectors (λ vector. lists vector.items)

  pub nested_at : (vectors : List (Vec (Vec T A) B)) (k : ℕ) (d : Vec (Vec T A) B)
      → k < length vectors → get_or (nested vectors) k [] ≡ lists (get_or vectors k d).items
  nested_at vectors k d l = get_or-map (λ vector. lists vector.items) vectors k d [] l
