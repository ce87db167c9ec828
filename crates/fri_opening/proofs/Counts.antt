-- How much is opened of what is kept of batches.
use Rattle.std.proofs.Common.{◌≡◌, ◌≢◌, ◌+◌, All, List, [], ◌∷◌, map, length, sym, ap, ap₂, ◌∙◌, arith, refl}
use Rattle.std.proofs.Common.{length-append}
use Rattle.std.specs.List.{AllZip, flat_map}
use Rattle.std.proofs.lemmas.List.{length-map}
use Rattle.algebra.proofs.Lists.{Each, tail_eq, head_eq}
use Rattle.fri_records.specs.declared.records.Batch.{Batch}
use Rattle.fri_commitments.specs.declared.committed.Committed.{Committed}
use Rattle.fri_opening.specs.Openings.{requests_for}
use Rattle.fri_commitments.proofs.Zipped.{none_left}

-- where as much is held of each datum as its batch has matrices
module _ {D Dom H : Type 0} (held : D → List H) where
  abbrev pub Counts : Committed D Dom → Batch → Type 0
  Counts c batch = length (held c.data) ≡ length batch.matrices.items

  -- there is a list of points for each matrix
  pub lists_each : {E N : Type 0} (numbers : E → N) (cs : List (Committed D Dom)) (pss : List (List (List E)))
      (batches : List Batch) (points : Batch → List (List N))
      → ((b : Batch) → length (points b) ≡ length b.matrices.items) → AllZip Counts cs batches
      → map (map (map numbers)) pss ≡ map points batches
      → Each (λ q. length q.points ≡ length (held q.datum)) (requests_for cs pss)
  lists_each numbers [] pss batches points long counts e = tt
  lists_each numbers (c ∷ cs) [] batches points long counts e = tt
  lists_each numbers (c ∷ cs) (ps ∷ pss) [] points long counts e = absurd counts
  lists_each numbers (c ∷ cs) (ps ∷ pss) (batch ∷ batches) points long counts e = (
    sym (length-map ps (map numbers)) ∙ ap length (head_eq e) ∙ long batch ∙ sym counts.0,
    lists_each numbers cs pss batches points long counts.1 (tail_eq e),
  )

  -- as much is held in all as there are matrices
  all_count : {E : Type 0} (cs : List (Committed D Dom)) (pss : List (List (List E))) (batches : List Batch)
      → AllZip Counts cs batches → length pss ≡ length cs
      → length (flat_map (λ q. held q.datum) (requests_for cs pss))
      ≡ length (flat_map (λ batch. batch.matrices.items) batches)
  all_count [] pss [] counts n = refl
  all_count [] pss (batch ∷ batches) counts n = absurd counts
  all_count (c ∷ cs) pss [] counts n = absurd counts
  all_count (c ∷ cs) [] (batch ∷ batches) counts n = absurd (omega (arith, n))
  all_count (c ∷ cs) (ps ∷ pss) (batch ∷ batches) counts n =
      length-append (held c.data) (flat_map (λ q. held q.datum) (requests_for cs pss))
      ∙ ap₂ (λ a b. a + b) counts.0 (all_count cs pss batches counts.1 (omega (arith, n)))
      ∙ sym (length-append batch.matrices.items (flat_map (λ k. k.matrices.items) batches))

  -- and something where there is some matrix
  pub some_held : {E : Type 0} (cs : List (Committed D Dom)) (pss : List (List (List E))) (batches : List Batch)
      → AllZip Counts cs batches → length pss ≡ length cs → flat_map (λ batch. batch.matrices.items) batches ≢ []
      → flat_map (λ q. held q.datum) (requests_for cs pss) ≢ []
  some_held cs pss batches counts n some none =
      some (none_left _ (sym (all_count cs pss batches counts n) ∙ ap length none))

-- and each list of points has one, where each that is asked for has
pub points_there : {D Dom E : Type 0} (cs : List (Committed D Dom)) (pss : List (List (List E)))
    → Each (λ ps. All (λ zs. zs ≢ []) ps) pss → Each (λ q. All (λ zs. zs ≢ []) q.points) (requests_for cs pss)
points_there [] pss some = tt
points_there (c ∷ cs) [] some = tt
points_there (c ∷ cs) (ps ∷ pss) some = (some.0, points_there cs pss some.1)
