-- What holds of the first entries of a list, and of all.
use Rattle.std.proofs.Common.{◌≡◌, ℕ, ◌+◌, ◌<◌, ◌≤◌, ◌⊎◌, inl, inr, List, [], ◌∷◌, ◌++◌, length, map, take, All}
use Rattle.std.proofs.Common.{get_or, refl, sym, ap, ap₂, subst, ◌∙◌, arith, length-append, append_assoc}
use Rattle.std.proofs.lemmas.Bool.{cases_lt}
use Rattle.std.proofs.lemmas.List.{take_more, take_all, map-append, get_or_append_left}

module _ {C : Type 0} (P : C → Type 0) (xs : List C) where
  at_end : (ys : List C) (x d : C) → get_or (ys ++ x ∷ []) (length ys) d ≡ x
  at_end [] x d = refl
  at_end (y ∷ ys) x d = at_end ys x d

  pub one_more_holds : (i : ℕ) (x : C) → All P (take i xs) → i < length xs → x ≡ get_or xs i x → P x
      → All P (take (i + 1) xs)
  one_more_holds i x before l is here =
      subst (λ ys. All P ys) (sym (take_more xs i x l ∙ ap (λ c. take i xs ++ c ∷ []) (sym is)))
      (λ k d m. found k d (cases_lt k (length (take i xs))) m)
    where
      found : (k : ℕ) (d : C) → (k < length (take i xs)) ⊎ (length (take i xs) ≤ k)
          → k < length (take i xs ++ x ∷ []) → P (get_or (take i xs ++ x ∷ []) k d)
      found k d (inl below) m =
          subst P (sym (get_or_append_left (take i xs) (x ∷ []) d k below)) (before k d below)
      found k d (inr past) m =
          subst P
          (sym (ap (λ n. get_or (take i xs ++ x ∷ []) n d)
          (let e : k ≡ length (take i xs) = omega (arith, past, m, length-append (take i xs) (x ∷ [])) in e)
          ∙ at_end (take i xs) x d))
          here

  pub all_hold : (i : ℕ) → All P (take i xs) → length xs ≤ i → All P xs
  all_hold i before l = subst (λ ys. All P ys) (take_all i xs l) before

-- one image more, behind what was there
pub scaled_more : {A B : Type 0} (f : A → B) (old : List B) (xs : List A) (i : ℕ) (x : A) (y : B)
    (before after : List B) → i < length xs → x ≡ get_or xs i x → y ≡ f x
    → before ≡ old ++ map f (take i xs) → after ≡ before ++ y ∷ []
    → after ≡ old ++ map f (take (i + 1) xs)
scaled_more f old xs i x y before after l is made h grown =
    let first = take i xs in
    let here = get_or xs i x in
    grown ∙ ap₂ (λ ys z. ys ++ z ∷ []) h (made ∙ ap f is)
    ∙ append_assoc old (map f first) (f here ∷ [])
    ∙ ap (λ ys. old ++ ys) (sym (map-append f first (here ∷ [])))
    ∙ ap (λ ys. old ++ map f ys) (sym (take_more xs i x l))
