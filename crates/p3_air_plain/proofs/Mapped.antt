-- Lists made element by element.
use Rattle.std.proofs.Common.{◌≡◌, ℕ, ◌+◌, ◌<◌, ◌≤◌, List, [], ◌∷◌, ◌++◌, length, get_or, map, take, sym, ap, ap₂, ◌∙◌}
use Rattle.std.proofs.lemmas.List.{map-append, take_more, take_all}

module _ {A B : Type 0} (f : A → B) (xs : List A) (i : ℕ) where
  -- one image more
  pub image_more : (x : A) (y : B) (before after : List B) → i < length xs → x ≡ get_or xs i x
      → y ≡ f x → before ≡ map f (take i xs) → after ≡ before ++ y ∷ []
      → after ≡ map f (take (i + 1) xs)
  image_more x y before after l is made h grown =
      grown ∙ ap₂ (λ ys z. ys ++ z ∷ []) h (made ∙ ap f is)
      ∙ sym (map-append f (take i xs) (get_or xs i x ∷ []))
      ∙ ap (map f) (sym (take_more xs i x l))

  -- all of them
  pub images_end : (ys : List B) → length xs ≤ i → ys ≡ map f (take i xs) → ys ≡ map f xs
  images_end ys end h = h ∙ ap (map f) (take_all i xs end)
