-- What holds of each element of a list.
use Rattle.std.proofs.Common.{◌≡◌, ◌≤◌, ◌<◌, ◌+◌, ℕ, List, [], ◌∷◌, ◌++◌, length, take, get_or, All}
use Rattle.std.proofs.Common.{sym, subst}
use Rattle.std.proofs.lemmas.List.{take_all}
use Rattle.std.proofs.lemmas.List.Elements.{All-more, All-push, All-cons, All-nil}

module _ {X : Type 0} (P : X → Type 0) where
  pub one_more : (xs : List X) (i : ℕ) (x : X) → i < length xs → x ≡ get_or xs i x
      → All P (take i xs) → P x → All P (take (i + 1) xs)
  one_more xs i x below is before here = All-more P xs i x below before (subst P is here)

  pub to_the_end : (xs : List X) (i : ℕ) → length xs ≤ i → All P (take i xs) → All P xs
  to_the_end xs i end all = subst (λ ys. All P ys) (take_all i xs end) all

  pub pushed : (xs ys : List X) (x : X) → ys ≡ xs ++ x ∷ [] → All P xs → P x → All P ys
  pushed xs ys x is before here =
      subst (λ zs. All P zs) (sym is) (All-push P xs x before here)

  pub single : (x : X) → P x → All P (x ∷ [])
  single x here = All-cons P x [] here (All-nil P)
