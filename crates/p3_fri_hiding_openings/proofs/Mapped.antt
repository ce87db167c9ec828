-- What holds of each entry, or of one, of a mapped list.
use Rattle.std.proofs.Common.{◌≡◌, ℕ, ◌<◌, List, [], ◌∷◌, map, length, get_or, All, Any}
use Rattle.std.proofs.Common.{Result, Ok, Err, MatchResult, sym, ap, subst, ◌∙◌, arith}
use Rattle.std.specs.Prelude.{IsErrAnd}
use Rattle.std.proofs.lemmas.List.{length-map, get_or-map}
use Rattle.algebra.proofs.Lists.{Each, each_from_All, All_from_each}

module _ {X Y : Type 0} (f : X → Y) (P : Y → Type 0) where
  each_mapped : (xs : List X) → Each (λ x. P (f x)) xs → Each P (map f xs)
  each_mapped [] h = tt
  each_mapped (x ∷ xs) h = (h.0, each_mapped xs h.1)

  pub all_mapped : (xs : List X) → All (λ x. P (f x)) xs → All P (map f xs)
  all_mapped xs h = All_from_each P (map f xs) (each_mapped xs (each_from_All (λ x. P (f x)) xs h))

-- what is refused of an entry is refused of the whole list
pub refused_at : {A E X Y : Type 0} (f : X → Y) (R : Y → E → Type 0) (Q : A → Type 0) (r : Result A E)
    (e : E) (xs : List X) (i : ℕ) (x : X) → i < length xs → x ≡ get_or xs i x
    → IsErrAnd r (λ d. d ≡ e) → R (f x) e → MatchResult r Q (λ d. Any (λ y. R y d) (map f xs))
refused_at f R Q (Ok a) e xs i x l is gives bad = absurd gives
refused_at f R Q (Err d) e xs i x l is gives bad = (
  i,
  f x,
  omega (arith, l, length-map xs f),
  get_or-map f xs i x (f x) l ∙ ap f (sym is),
  subst (R (f x)) (sym gives) bad,
)
