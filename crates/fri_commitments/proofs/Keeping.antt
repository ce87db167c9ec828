-- What two lists have alike.
use Rattle.std.proofs.Common.{◌≡◌, ℕ, zero, suc, ◌+◌, ◌<◌, ◌≤◌, List, [], ◌∷◌, map, length, take, get_or}
use Rattle.std.proofs.Common.{sym, ap, ap₂, subst, ◌∙◌, arith}
use Rattle.std.proofs.lemmas.List.{take_all, length-map}
use Rattle.algebra.proofs.Lists.{head_eq, tail_eq}

-- one more of what two lists have alike
alike_suc : {A B C : Type 0} (f : A → C) (g : B → C) (xs : List A) (ys : List B) (i : ℕ) (x : A) (y : B)
    → i < length xs → i < length ys → x ≡ get_or xs i x → y ≡ get_or ys i y → f x ≡ g y
    → map f (take i xs) ≡ map g (take i ys) → map f (take (suc i) xs) ≡ map g (take (suc i) ys)
alike_suc f g [] ys i x y l m p q e h = absurd (omega (arith, l))
alike_suc f g (u ∷ xs) [] i x y l m p q e h = absurd (omega (arith, m))
alike_suc f g (u ∷ xs) (v ∷ ys) zero x y l m p q e h =
    ap (λ c. c ∷ []) (ap f (sym p) ∙ e ∙ ap g q)
alike_suc f g (u ∷ xs) (v ∷ ys) (suc i) x y l m p q e h =
    ap₂ (λ c cs. c ∷ cs) (head_eq h)
    (alike_suc f g xs ys i x y (omega (arith, l)) (omega (arith, m)) p q e (tail_eq h))

pub more_alike : {A B C : Type 0} (f : A → C) (g : B → C) (xs : List A) (ys : List B) (i : ℕ) (x : A) (y : B)
    → i < length xs → i < length ys → x ≡ get_or xs i x → y ≡ get_or ys i y → f x ≡ g y
    → map f (take i xs) ≡ map g (take i ys) → map f (take (i + 1) xs) ≡ map g (take (i + 1) ys)
more_alike f g xs ys i x y l m p q e h =
    let same : suc i ≡ i + 1 = omega arith in
    subst (λ n. map f (take n xs) ≡ map g (take n ys)) same (alike_suc f g xs ys i x y l m p q e h)

-- all of them
pub all_alike : {A B C : Type 0} (f : A → C) (g : B → C) (xs : List A) (ys : List B) (i : ℕ)
    → length xs ≤ i → length ys ≤ i → map f (take i xs) ≡ map g (take i ys) → map f xs ≡ map g ys
all_alike f g xs ys i l m h =
    ap (λ vs. map f vs) (sym (take_all i xs l)) ∙ h ∙ ap (λ ws. map g ws) (take_all i ys m)

-- an entry of each
pub alike_at : {A B C : Type 0} (f : A → C) (g : B → C) (xs : List A) (ys : List B) (i : ℕ) (x : A) (y : B)
    → i < length xs → i < length ys → x ≡ get_or xs i x → y ≡ get_or ys i y → map f xs ≡ map g ys → f x ≡ g y
alike_at f g [] ys i x y l m p q e = absurd (omega (arith, l))
alike_at f g (u ∷ xs) [] i x y l m p q e = absurd (omega (arith, m))
alike_at f g (u ∷ xs) (v ∷ ys) zero x y l m p q e = ap f p ∙ head_eq e ∙ sym (ap g q)
alike_at f g (u ∷ xs) (v ∷ ys) (suc i) x y l m p q e =
    alike_at f g xs ys i x y (omega (arith, l)) (omega (arith, m)) p q (tail_eq e)

-- they have one length
pub long_as : {A B C : Type 0} (f : A → C) (g : B → C) (xs : List A) (ys : List B) → map f xs ≡ map g ys
    → length xs ≡ length ys
long_as f g xs ys e = sym (length-map xs f) ∙ ap length e ∙ length-map ys g
