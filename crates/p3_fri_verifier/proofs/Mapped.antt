-- A list whose elements are replaced one after another.
use Rattle.std.proofs.Common.{◌≡◌, ℕ, zero, suc, ◌+◌, ◌<◌, ◌++◌, List, [], ◌∷◌, length, map, take, drop, get_or, arith, refl, ap, ◌∙◌, sym, add-one}
use Rattle.std.specs.Prelude.{slice_set}

place_of : {A : Type 0} (f : A → A) (xs : List A) (k : ℕ) (d : A) → k < length xs
    → get_or (map f (take k xs) ++ drop k xs) k d ≡ get_or xs k d
place_of f [] k d l = absurd (omega arith)
place_of f (x ∷ xs) zero d l = refl
place_of f (x ∷ xs) (suc k) d l = place_of f xs k d (omega arith)

replaced : {A : Type 0} (f : A → A) (xs : List A) (k : ℕ) (d : A) → k < length xs
    → slice_set (map f (take k xs) ++ drop k xs) k (f (get_or xs k d)) ≡ map f (take (suc k) xs) ++ drop (suc k) xs
replaced f [] k d l = absurd (omega arith)
replaced f (x ∷ xs) zero d l = refl
replaced {A} f (x ∷ xs) (suc k) d l = ap (λ (ys : List A). f x ∷ ys) (replaced f xs k d (omega arith))

-- one more is replaced
pub replace_next : {A : Type 0} (f : A → A) (xs ys : List A) (k : ℕ) (y : A) → ys ≡ map f (take k xs) ++ drop k xs
    → k < length xs → y ≡ get_or ys k y → slice_set ys k (f y) ≡ map f (take (k + 1) xs) ++ drop (k + 1) xs
replace_next {A} f xs ys k y is m e =
    let at : y ≡ get_or xs k y = e ∙ ap (λ (zs : List A). get_or zs k y) is ∙ place_of f xs k y m in
    ap (λ (zs : List A). slice_set zs k (f y)) is
    ∙ ap (λ (z : A). slice_set (map f (take k xs) ++ drop k xs) k (f z)) at
    ∙ replaced f xs k y m ∙ ap (λ (n : ℕ). map f (take n xs) ++ drop n xs) (sym (add-one k))
