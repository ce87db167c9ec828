-- Lists that are equal entry by entry in what is seen of them.
use Rattle.std.proofs.Common.{◌≡◌, ℕ, ◌+◌, ◌<◌, List, [], ◌∷◌, ◌++◌, length, get_or, map, take, sym, ap, ap₂, ◌∙◌}
use Rattle.std.proofs.lemmas.List.{map-append, take_more}

module _ {A B C : Type 0} (f : A → C) (before after : List A) (x : A) (ys : List B) (i : ℕ) (y : B) where
  -- one entry more
  pub image_more : (g : B → C) → i < length ys → y ≡ get_or ys i y → after ≡ before ++ x ∷ []
      → f x ≡ g y → map f before ≡ map g (take i ys) → map f after ≡ map g (take (i + 1) ys)
  image_more g l is grown same h =
      ap (map f) grown ∙ map-append f before (x ∷ [])
      ∙ ap₂ (λ zs z. zs ++ z ∷ []) h (same ∙ ap g is)
      ∙ sym (map-append g (take i ys) (get_or ys i y ∷ [])) ∙ ap (map g) (sym (take_more ys i y l))

  -- the same, where an image is made in two steps
  pub image_more_of : {D : Type 0} (g : D → C) (s : B → D) → i < length ys → y ≡ get_or ys i y
      → after ≡ before ++ x ∷ [] → f x ≡ g (s y) → map f before ≡ map g (map s (take i ys))
      → map f after ≡ map g (map s (take (i + 1) ys))
  image_more_of g s l is grown same h =
      ap (map f) grown ∙ map-append f before (x ∷ [])
      ∙ ap₂ (λ zs z. zs ++ z ∷ []) h (same ∙ ap (λ e. g (s e)) is)
      ∙ sym (map-append g (map s (take i ys)) (s (get_or ys i y) ∷ []))
      ∙ ap (map g) (sym (map-append s (take i ys) (get_or ys i y ∷ [])))
      ∙ ap (λ es. map g (map s es)) (sym (take_more ys i y l))

-- one image more, of an entry
pub one_image_more : {B C : Type 0} (g : B → C) (before : List C) (ys : List B) (i : ℕ) (y : B)
    (z : C) (d : B) → i < length ys → y ≡ get_or ys i d → z ≡ g y → before ≡ map g (take i ys)
    → before ++ z ∷ [] ≡ map g (take (i + 1) ys)
one_image_more g before ys i y z d l is same h =
    ap₂ (λ zs e. zs ++ e ∷ []) h (same ∙ ap g is)
    ∙ sym (map-append g (take i ys) (get_or ys i d ∷ [])) ∙ ap (map g) (sym (take_more ys i d l))
