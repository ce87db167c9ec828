-- Lists that grow by an element or by a part at each step.
use Rattle.std.proofs.Common.{◌≡◌, ℕ, ◌+◌, ◌<◌, ◌≤◌, List, [], ◌∷◌, ◌++◌, take, length, map, get_or}
use Rattle.std.proofs.Common.{sym, ap, ◌∙◌, append_assoc}
use Rattle.std.specs.List.{flat_map}
use Rattle.std.proofs.lemmas.Grind.{flat_map-append}
use Rattle.std.proofs.lemmas.List.{take_more, map-append, take_all, append-nil}

module _ {A B : Type 0} (f : A → B) (ys : List A) where
  pub mapped_next : (k : ℕ) (y : A) (start old new : List B) → k < length ys → y ≡ get_or ys k y
      → old ≡ start ++ map f (take k ys) → new ≡ old ++ f y ∷ []
      → new ≡ start ++ map f (take (k + 1) ys)
  mapped_next k y start old new l is so_far grown =
      grown ∙ ap (λ xs. xs ++ f y ∷ []) so_far
      ∙ append_assoc start (map f (take k ys)) (f y ∷ [])
      ∙ ap (λ z. start ++ (map f (take k ys) ++ f z ∷ [])) is
      ∙ ap (λ xs. start ++ xs)
      (sym (ap (λ xs. map f xs) (take_more ys k y l)
      ∙ map-append f (take k ys) (get_or ys k y ∷ [])))

  -- from the empty list
  pub mapped_more : (k : ℕ) (y : A) (old new : List B) → k < length ys → y ≡ get_or ys k y
      → old ≡ map f (take k ys) → new ≡ old ++ f y ∷ [] → new ≡ map f (take (k + 1) ys)
  mapped_more k y old new l is so_far grown =
      mapped_next k y [] old new l is so_far grown

  pub mapped_end : (k : ℕ) (start xs : List B) → length ys ≤ k → xs ≡ start ++ map f (take k ys)
      → xs ≡ start ++ map f ys
  mapped_end k start xs l e = e ∙ ap (λ zs. start ++ map f zs) (take_all k ys l)

module _ {A B : Type 0} (f : A → List B) (ys : List A) where
  -- of the joined parts, one more
  pub joined_next : (k : ℕ) (y : A) → k < length ys → y ≡ get_or ys k y
      → flat_map f (take (k + 1) ys) ≡ flat_map f (take k ys) ++ f y
  joined_next k y l is =
      ap (λ xs. flat_map f xs) (take_more ys k y l)
      ∙ flat_map-append f (take k ys) (get_or ys k y ∷ [])
      ∙ ap (λ xs. flat_map f (take k ys) ++ xs) (append-nil (f (get_or ys k y)) ∙ ap f (sym is))

  pub joined_pushed : (k : ℕ) (y : A) (start old new : List B) → k < length ys → y ≡ get_or ys k y
      → old ≡ start ++ flat_map f (take k ys) → new ≡ old ++ f y
      → new ≡ start ++ flat_map f (take (k + 1) ys)
  joined_pushed k y start old new l is so_far grown =
      grown ∙ ap (λ xs. xs ++ f y) so_far ∙ append_assoc start (flat_map f (take k ys)) (f y)
      ∙ ap (λ xs. start ++ xs) (sym (joined_next k y l is))

  pub joined_end : (k : ℕ) (start xs : List B) → length ys ≤ k
      → xs ≡ start ++ flat_map f (take k ys) → xs ≡ start ++ flat_map f ys
  joined_end k start xs l e = e ∙ ap (λ zs. start ++ flat_map f zs) (take_all k ys l)
