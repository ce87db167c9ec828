-- The first element of which something isn't so, found by going through a list.
use Rattle.std.proofs.Common.{◌≡◌, ℕ, ◌<◌, ◌≤◌, ◌+◌, List, [], length, take, get_or, All, subst}
use Rattle.std.proofs.Common.{sym, ap, ◌∙◌}
use Rattle.std.proofs.lemmas.List.{take_all}
use Rattle.std.proofs.lemmas.List.Elements.{All-more}
use Rattle.std.specs.declared.vec.Vec.{Vec}
use Rattle.algebra.specs.Nested.{lists}
use Rattle.algebra.proofs.Nested.{length-lists, lists_at}
use Rattle.p3_air.specs.Satisfied.{row_at}
use Rattle.p3_air.specs.Shapes.{IsFirstMisfit}

module _ {X : Type 0} (P : X → Type 0) (xs : List X) where
  pub one_more : (i : ℕ) (x : X) → i < length xs → x ≡ get_or xs i x → All P (take i xs) → P x
      → All P (take (i + 1) xs)
  one_more i x l e before here = All-more P xs i x l before (subst P e here)

  pub to_the_end : (i : ℕ) → length xs ≤ i → All P (take i xs) → All P xs
  to_the_end i l all = subst (λ ys. All P ys) (take_all i xs l) all

-- the list in a vector that was read
pub list_read : {T A : Type 0} (vectors : List (Vec T A)) (i : ℕ) (vector : Vec T A)
    → i < length vectors → vector ≡ get_or vectors i vector
    → get_or (lists vectors) i [] ≡ vector.items
list_read vectors i vector l e = lists_at vectors i vector l ∙ ap (λ v. v.items) (sym e)

-- the first of other length, by the vector that was read
pub misfit_read : {T A : Type 0} (width : ℕ) (vectors : List (Vec T A)) (place entries : ℕ)
    (vector : Vec T A)
    → IsFirstMisfit width (lists vectors) place (length (row_at (lists vectors) place))
    → place < length vectors → vector ≡ get_or vectors place vector
    → entries ≡ length vector.items → IsFirstMisfit width (lists vectors) place entries
misfit_read width vectors place entries vector misfit there is long =
    subst (IsFirstMisfit width (lists vectors) place)
    (ap length (list_read vectors place vector there is) ∙ sym long) misfit

-- the same of the lists in vectors
module _ {T A : Type 0} (P : List T → Type 0) (vectors : List (Vec T A)) where
  pub one_list_more : (i : ℕ) (vector : Vec T A) → i < length vectors
      → vector ≡ get_or vectors i vector → All P (take i (lists vectors)) → P vector.items
      → All P (take (i + 1) (lists vectors))
  one_list_more i vector l e before here =
      All-more P (lists vectors) i [] (subst (λ n. i < n) (sym (length-lists vectors)) l) before
      (subst P (sym (list_read vectors i vector l e)) here)

  pub lists_to_the_end : (i : ℕ) → length vectors ≤ i → All P (take i (lists vectors))
      → All P (lists vectors)
  lists_to_the_end i l all =
      to_the_end P (lists vectors) i (subst (λ n. n ≤ i) (sym (length-lists vectors)) l) all
