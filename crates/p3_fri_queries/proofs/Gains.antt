-- Lists of lists, as a call makes them and as the entries of one list.
use Rattle.std.proofs.Common.{◌≡◌, ℕ, ◌+◌, List, [], ◌∷◌, ◌++◌, map, length, get_or, ap, ap₂, ◌∙◌, sym}
use Rattle.std.specs.declared.vec.Vec.{Vec}
use Rattle.std.proofs.lemmas.List.{map-append}
use Rattle.algebra.specs.Nested.{lists}
use Rattle.algebra.specs.Polynomial.{tabulate}
use Rattle.algebra.proofs.Lists.{tabulate-next, tabulate-get_or, map-tabulate}

-- a list by its entries, each taken by a function
pub tabulated : {A B : Type 0} (g : A → B) (n : ℕ) (xs : List A) (d : A) → length xs ≡ n
    → map g xs ≡ tabulate n (λ k. g (get_or xs k d))
tabulated g n xs d e = ap (map g) (sym (tabulate-get_or n xs d e)) ∙ map-tabulate g n (λ k. get_or xs k d)

-- one list more without an element
pub lists_more : {T A : Type 0} (n : ℕ) (old new : List (Vec T A)) (v : Vec T A)
    → lists old ≡ tabulate n (λ _. []) → new ≡ old ++ v ∷ [] → v.items ≡ []
    → lists new ≡ tabulate (n + 1) (λ _. [])
lists_more {T} {A} n old new v h e none =
    ap (λ (vectors : List (Vec T A)). lists vectors) e
    ∙ map-append (λ (w : Vec T A). w.items) old (v ∷ [])
    ∙ ap₂ (λ (xs : List (List T)) (x : List T). xs ++ x ∷ []) h none
    ∙ sym (tabulate-next n (λ _. []))
