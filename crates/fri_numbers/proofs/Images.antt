-- Lists that a loop makes of others, entry by entry.
use Rattle.std.proofs.Common.{◌≡◌, ℕ, ◌+◌, ◌<◌, ◌≤◌, List, [], ◌∷◌, ◌++◌, map, length, take, get_or, All, sym, subst, ap, ap₂, ◌∙◌, length-append}
use Rattle.std.proofs.lemmas.List.{take_all, take_more, map_more, map-append}
use Rattle.std.proofs.lemmas.List.Elements.{All-push}
use Rattle.algebra.proofs.Lists.{map-map}
use Rattle.fri_numbers.specs.Claims.{PointNumbers, MatrixNumbers}
use Rattle.fri_numbers.proofs.Kept.{same_more}

module _ {A B C D : Type 0} (f : B → C) (g : A → B) (h : D → C) where
  -- one entry more, of what is made
  pub image_more : (xs news : List A) (ys : List D) (i : ℕ) (x : A) (y : D) → i < length ys
      → y ≡ get_or ys i y → news ≡ xs ++ x ∷ [] → f (g x) ≡ h y
      → map f (map g xs) ≡ map h (take i ys) → map f (map g news) ≡ map h (take (i + 1) ys)
  image_more xs news ys i x y l e pushed same known =
      map-map f g news
      ∙ same_more (λ a. f (g a)) h xs news ys i x y l e pushed same (sym (map-map f g xs) ∙ known)

  -- and of what it is made of
  pub of_image_more : (xs news : List D) (ys : List A) (i : ℕ) (x : D) (y : A) → i < length ys
      → y ≡ get_or ys i y → news ≡ xs ++ x ∷ [] → h x ≡ f (g y)
      → map h xs ≡ map f (map g (take i ys)) → map h news ≡ map f (map g (take (i + 1) ys))
  of_image_more xs news ys i x y l e pushed same known =
      same_more h (λ a. f (g a)) xs news ys i x y l e pushed same (known ∙ map-map f g (take i ys))
      ∙ sym (map-map f g (take (i + 1) ys))

-- one entry more of what is an image of the other list
pub taken_more : {A B : Type 0} (f : A → B) (xs news : List A) (ys : List B) (i : ℕ) (x : A) (d : B)
    → i < length ys → news ≡ xs ++ x ∷ [] → f x ≡ get_or ys i d → map f xs ≡ take i ys
    → map f news ≡ take (i + 1) ys
taken_more f xs news ys i x d l pushed same known =
    ap (map f) pushed ∙ map-append f xs (x ∷ []) ∙ ap₂ (λ zs z. zs ++ z ∷ []) known same
    ∙ sym (take_more ys i d l)

-- one entry more of an image
pub read_more : {A B : Type 0} (f : A → B) (xs news : List B) (ys : List A) (i : ℕ) (x : B) (y : A)
    → i < length ys → y ≡ get_or ys i y → news ≡ xs ++ x ∷ [] → x ≡ f y → xs ≡ map f (take i ys)
    → news ≡ map f (take (i + 1) ys)
read_more f xs news ys i x y l e pushed same known =
    pushed ∙ ap₂ (λ zs z. zs ++ z ∷ []) known (same ∙ ap f e) ∙ sym (map_more f ys i y l)

-- the whole list
pub image_all : {D C : Type 0} (whole : List D → C) (ys : List D) (i : ℕ) {made : C}
    → length ys ≤ i → made ≡ whole (take i ys) → made ≡ whole ys
image_all whole ys i l known = known ∙ ap whole (take_all i ys l)

-- what holds of each entry's image
pub holds_more : {A B : Type 0} (P : B → Type 0) (g : A → B) (xs news : List A) (x : A)
    → news ≡ xs ++ x ∷ [] → All P (map g xs) → P (g x) → All P (map g news)
holds_more P g xs news x pushed all one =
    subst (λ ys. All P ys) (sym (ap (map g) pushed ∙ map-append g xs (x ∷ [])))
    (All-push P (map g xs) (g x) all one)

pub count_more : {A : Type 0} (xs news : List A) (x : A) (i : ℕ) → news ≡ xs ++ x ∷ []
    → length xs ≡ i → length news ≡ i + 1
count_more xs news x i pushed count =
    ap length pushed ∙ length-append xs (x ∷ []) ∙ ap (λ n. n + 1) count

-- the numbers of a matrix that is claimed, part by part
pub same_numbers : {s t n m : ℕ} {ps qs : List PointNumbers} → s ≡ t → n ≡ m → ps ≡ qs
    → let a : MatrixNumbers = record { shift = s; log_size = n; points = ps } in
    let b : MatrixNumbers = record { shift = t; log_size = m; points = qs } in a ≡ b
same_numbers e l p = λ i. record { shift = e i; log_size = l i; points = p i }
