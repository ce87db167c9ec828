-- The first element of a list of which something doesn't hold, found by going through the list.
use Rattle.std.proofs.Common.{◌≡◌, ℕ, ◌<◌, ◌≤◌, ◌+◌, List, length, take, get_or, All, sym, subst}
use Rattle.std.proofs.lemmas.List.{take_all}
use Rattle.std.proofs.lemmas.List.Elements.{All-more, at_read}
use Rattle.p3_fri_openings.specs.First.{FirstAt}

module _ {X : Type 0} where
  pub first_at : (Passes Refused : X → Type 0) (xs : List X) (i : ℕ) (x : X) → i < length xs
      → x ≡ get_or xs i x → All Passes (take i xs) → Refused x → FirstAt Passes Refused xs i
  first_at Passes Refused xs i x h e before here = record {
    within = h;
    before = before;
    here = at_read xs Refused i x h e here;
  }

  pub one_more : (Passes : X → Type 0) (xs : List X) (i : ℕ) (x : X) → i < length xs
      → x ≡ get_or xs i x → All Passes (take i xs) → Passes x → All Passes (take (i + 1) xs)
  one_more Passes xs i x h e before here = All-more Passes xs i x h before (subst Passes e here)

  pub to_the_end : (Passes : X → Type 0) (xs : List X) (i : ℕ) → length xs ≤ i
      → All Passes (take i xs) → All Passes xs
  to_the_end Passes xs i h all = subst (λ ys. All Passes ys) (take_all i xs h) all

  pub at_item : (Passes : X → Type 0) (xs : List X) (i : ℕ) (x : X) → i < length xs
      → x ≡ get_or xs i x → All Passes xs → Passes x
  at_item Passes xs i x h e all = subst Passes (sym e) (all i x h)
