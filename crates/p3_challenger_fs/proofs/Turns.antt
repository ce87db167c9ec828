-- What is left of a list after one more.
use Rattle.std.proofs.Common.{◌≡◌, ℕ, zero, suc, ◌+◌, List, [], ◌∷◌, drop, refl, ap, ◌∙◌, add-one}

drop_suc : {A : Type 0} (xs : List A) (n : ℕ) → drop (suc n) xs ≡ drop 1 (drop n xs)
drop_suc xs zero = refl
drop_suc [] (suc n) = refl
drop_suc (x ∷ xs) (suc n) = drop_suc xs n

pub drop_next : {A : Type 0} (xs : List A) (n : ℕ) → drop (n + 1) xs ≡ drop 1 (drop n xs)
drop_next xs n = ap (λ m. drop m xs) (add-one n) ∙ drop_suc xs n
