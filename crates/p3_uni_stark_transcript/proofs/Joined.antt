-- What is appended part by part.
use Rattle.std.proofs.Common.{◌≡◌, ℕ, List, [], ◌∷◌, ◌++◌, map, ap, ap₂, ◌∙◌, append_assoc}
use Rattle.std.proofs.lemmas.List.{map-append}

pub five_parts : (v w x y z t h n c p q : List ℕ) → v ≡ [] → w ≡ v ++ h → x ≡ w ++ n → y ≡ x ++ c
    → z ≡ y ++ p → t ≡ z ++ q → t ≡ h ++ n ++ c ++ p ++ q
five_parts v w x y z t h n c p q none header nodes constraints publics columns =
    columns ∙ ap (λ l. l ++ q) (publics ∙ ap (λ l. l ++ p) (constraints ∙ ap (λ l. l ++ c)
    (nodes ∙ ap (λ l. l ++ n) (header ∙ ap (λ l. l ++ h) none))))

pub two_steps : {A B : Type 0} (f : A → B) (s t u : List A) (x y : A) (old front : List B) (x' y' : B)
    → map f s ≡ old ++ front → t ≡ s ++ x ∷ [] → u ≡ t ++ y ∷ [] → f x ≡ x' → f y ≡ y'
    → map f u ≡ old ++ (front ++ (x' ∷ y' ∷ []))
two_steps f s t u x y old front x' y' before first second one two =
    ap (λ l. map f l) second ∙ map-append f t (y ∷ [])
    ∙ ap (λ l. l ++ f y ∷ [])
    (ap (λ l. map f l) first ∙ map-append f s (x ∷ []) ∙ ap (λ l. l ++ f x ∷ []) before)
    ∙ append_assoc (old ++ front) (f x ∷ []) (f y ∷ [])
    ∙ append_assoc old front (f x ∷ f y ∷ [])
    ∙ ap₂ (λ a b. old ++ (front ++ (a ∷ b ∷ []))) one two
