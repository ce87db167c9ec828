-- Rows of elements and rows of their numbers.
use Rattle.std.proofs.Common.{◌≡◌, ℕ, ◌+◌, ◌<◌, List, [], ◌∷◌, ◌++◌, length, get_or, map, take, sym, ap, ap₂, ◌∙◌, subst}
use Rattle.std.proofs.lemmas.List.{get_or-map, map-append, take_more, length-map}
use Rattle.std.specs.declared.vec.Vec.{Vec}
use Rattle.algebra.specs.Nested.{lists}
use Rattle.algebra.proofs.Nested.{length-lists}
use Rattle.p3_air_plain.specs.declared.error.ElementError.{ElementError}
use Rattle.p3_air_plain.specs.declared.error.ElementError.TheVariants.{OutOfRange, OutOfMemory}
use Rattle.p3_air_plain.specs.declared.error.Part.{Part}
use Rattle.p3_air_plain.specs.Elements.{IsTooLargeAt, ListFault, RowsFault}

-- the row in a vector that was read
row_read : {T A : Type 0} (rows : List (Vec T A)) (row : ℕ) (v : Vec T A) (d : List T)
    → row < length rows → v ≡ get_or rows row v → get_or (lists rows) row d ≡ v.items
row_read rows row v d l is = get_or-map (λ w. w.items) rows row v d l ∙ ap (λ w. w.items) (sym is)

-- why a row is refused is why the rows are
pub row_refused : {A : Type 0} (order : ℕ) (p : Part) (rows : List (Vec ℕ A)) (row : ℕ)
    (v : Vec ℕ A) → row < length rows → v ≡ get_or rows row v → (f : ElementError)
    → ListFault order p row v.items f → RowsFault order p (lists rows) f
row_refused order p rows row v l is (OutOfRange q at entry) h = (
  h.0,
  λ d. subst (λ n. IsTooLargeAt order entry (get_or (lists rows) n d)) (sym h.1)
      (subst (IsTooLargeAt order entry) (sym (row_read rows row v d l is)) h.2),
)
row_refused order p rows row v l is OutOfMemory h = tt

-- one row more
pub rows_more : {V A B : Type 0} (f : V → ℕ) (all : List (Vec V A)) (rows : List (Vec ℕ B))
    (row : ℕ) (elements : Vec V A) (v : Vec ℕ B) → row < length rows → v ≡ get_or rows row v
    → map f elements.items ≡ v.items → map (map f) (lists all) ≡ take row (lists rows)
    → map (map f) (lists (all ++ elements ∷ [])) ≡ take (row + 1) (lists rows)
rows_more f all rows row elements v l is here before =
    ap (map (map f)) (map-append (λ w. w.items) all (elements ∷ []))
    ∙ map-append (map f) (lists all) (elements.items ∷ [])
    ∙ ap₂ (λ xs x. xs ++ x ∷ []) before (here ∙ sym (row_read rows row v [] l is))
    ∙ sym (take_more (lists rows) row [] (subst (λ n. row < n) (sym (length-lists rows)) l))
