-- Properties of all elements of a list, and of two lists side by side, that are tested from the first on.
use Rattle.std.proofs.Common.{◌≡◌, ℕ, zero, suc, ◌+◌, ◌<◌, arith, refl, ap, subst}
use Rattle.std.proofs.Common.{List, [], ◌∷◌, length, get_or, map, ◌⊎◌, inl, inr}
use Rattle.std.proofs.Math.Nat.{eq-or-lt_of_le}
use Rattle.std.specs.Prelude.{All, Some, slice_get}
use Rattle.std.specs.List.{AllZip}

-- within a list no default is needed
pub same_at : {A : Type 0} (xs : List A) (k : ℕ) (d e : A) → k < length xs → get_or xs k d ≡ get_or xs k e
same_at [] k d e l = absurd (omega arith)
same_at (x ∷ xs) zero d e l = refl
same_at (x ∷ xs) (suc k) d e l = same_at xs k d e (omega arith)

pub all_from : {A : Type 0} (P : A → Type 0) (xs : List A) (e : A) → ((k : ℕ) → k < length xs → P (get_or xs k e))
    → All P xs
all_from P xs e h k d l = subst P (same_at xs k e d l) (h k l)

pub get_at : {A : Type 0} (xs : List A) (k : ℕ) (d : A) → k < length xs → slice_get xs k ≡ Some (get_or xs k d)
get_at [] k d l = absurd (omega arith)
get_at (x ∷ xs) zero d l = refl
get_at (x ∷ xs) (suc k) d l = get_at xs k d (omega arith)

pub get_in : {A : Type 0} (xs : List A) (k : ℕ) (x d : A) → slice_get xs k ≡ Some x → get_or xs k d ≡ x
get_in [] k x d e = cc
get_in (y ∷ xs) zero x d e = cc
get_in (y ∷ xs) (suc k) x d e = get_in xs k x d e

pub get_map : {A B : Type 0} (f : A → B) (xs : List A) (k : ℕ) (x : A) → slice_get xs k ≡ Some x
    → slice_get (map f xs) k ≡ Some (f x)
get_map f [] k x e = cc
get_map {A} {B} f (y ∷ xs) zero x e = let h : y ≡ x = cc in ap (λ (z : A). Some (f z)) h
get_map f (y ∷ xs) (suc k) x e = get_map f xs k x e

before_or_at : (j k : ℕ) → j < k + 1 → (j < k) ⊎ (j ≡ k)
before_or_at j k l = elim (eq-or-lt_of_le {n = j} {m = k} (omega arith)) [ inl e ↦ inr e | inr m ↦ inl m ]

module _ {A B : Type 0} (R : A → B → Type 0) where
  pub all_zip_from : (xs : List A) (ys : List B) → length ys ≡ length xs
      → ((k : ℕ) (x : A) (y : B) → slice_get xs k ≡ Some x → slice_get ys k ≡ Some y → R x y) → AllZip R xs ys
  all_zip_from [] [] e h = tt
  all_zip_from [] (y ∷ ys) e h = absurd (omega arith)
  all_zip_from (x ∷ xs) [] e h = absurd (omega arith)
  all_zip_from (x ∷ xs) (y ∷ ys) e h =
      (h zero x y refl refl, all_zip_from xs ys (omega arith) (λ k. h (suc k)))

  pub all_zip_at : (xs : List A) (ys : List B) → AllZip R xs ys → (k : ℕ) (x : A) (y : B)
      → slice_get xs k ≡ Some x → slice_get ys k ≡ Some y → R x y
  all_zip_at [] ys h k x y e f = cc
  all_zip_at (a ∷ xs) [] h k x y e f = cc
  all_zip_at (a ∷ xs) (b ∷ ys) h zero x y e f =
      let p : a ≡ x = cc in let q : b ≡ y = cc in
      subst (λ (z : A). R z y) p (subst (λ (z : B). R a z) q h.0)
  all_zip_at (a ∷ xs) (b ∷ ys) h (suc k) x y e f = all_zip_at xs ys h.1 k x y e f

  -- of the pairs before the `k`-th
  abbrev pub AreBefore : (k : ℕ) (xs : List A) (ys : List B) → Type 0
  AreBefore k xs ys = (j : ℕ) (x : A) (y : B) → j < k → slice_get xs j ≡ Some x → slice_get ys j ≡ Some y → R x y

  pub one_more : (k : ℕ) (xs : List A) (ys : List B) (x : A) (y : B) → slice_get xs k ≡ Some x → slice_get ys k ≡ Some y
      → R x y → AreBefore k xs ys → AreBefore (k + 1) xs ys
  one_more k xs ys x y e f r h j a b l p q = elim (before_or_at j k l) [
    | inl m ↦ h j a b m p q
    | inr m ↦
        let s : x ≡ a = let u : slice_get xs k ≡ Some a = subst (λ (i : ℕ). slice_get xs i ≡ Some a) m p in cc in
        let t : y ≡ b = let u : slice_get ys k ≡ Some b = subst (λ (i : ℕ). slice_get ys i ≡ Some b) m q in cc in
        subst (λ (z : A). R z b) s (subst (λ (z : B). R x z) t r)
  ]
