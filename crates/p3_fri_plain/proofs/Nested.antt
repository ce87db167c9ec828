-- Lists in vectors, where each entry is taken as it is.
use Rattle.std.specs.Prelude.{List, map, ◌≡◌}
use Rattle.std.specs.declared.vec.Vec.{Vec}
use Rattle.std.proofs.lemmas.List.{map-id}
use Rattle.algebra.specs.Nested.{lists, nested}

module _ {T : Type 0} where
  pub lists_same : {A : Type 0} (vectors : List (Vec T A))
      → map (λ v. map (λ x. x) v.items) vectors ≡ lists vectors
  lists_same vectors = simp map-id

  pub nested_same : {A B : Type 0} (vectors : List (Vec (Vec T A) B))
      → map (λ v. map (λ w. map (λ x. x) w.items) v.items) vectors ≡ nested vectors
  nested_same vectors = simp map-id

  pub deep_same : {A B C : Type 0} (vectors : List (Vec (Vec (Vec T A) B) C))
      → map (λ u. map (λ v. map (λ w. map (λ x. x) w.items) v.items) u.items) vectors
      ≡ map (λ u. nested u.items) vectors
  deep_same vectors = simp map-id

  pub entries_same : (xs : List (List T)) → map (λ ys. map (λ y. y) ys) xs ≡ xs
  entries_same xs = simp map-id
