-- Places in lists, and what holds there.
use Rattle.std.proofs.Common.{◌≡◌, ℕ, zero, suc, ◌+◌, ◌<◌, List, [], ◌∷◌, length}
use Rattle.std.proofs.Common.{get_or, refl, sym, ap, ap₂, ◌∙◌, arith, subst}
use Rattle.std.proofs.Common.{Vec, vec_len, All, Option, Some, None, MatchOption}
use Rattle.algebra.specs.Nested.{lists}
use Rattle.std.specs.List.{AllZip, enumerate_from, zip}
use Rattle.p3_fri_relation.specs.Faults.{At}

further : {A : Type 0} (P : A → Type 0) (i : ℕ) (a : A) (xs : List A) → At i P xs
    → At (suc i) P (a ∷ xs)
further P i a xs h = (h.0, omega (arith, h.1), h.2, h.3)

nearer : {A : Type 0} (P : A → Type 0) (i : ℕ) (a : A) (xs : List A) → At (suc i) P (a ∷ xs)
    → At i P xs
nearer P i a xs h = (h.0, omega (arith, h.1), h.2, h.3)

module _ {X Y : Type 0} where
  -- two elements at one place
  pub at_zip : (P : X × Y → Type 0) (i : ℕ) (xs : List X) (ys : List Y) (x : X) (y : Y)
      → i < length xs → i < length ys → x ≡ get_or xs i x → y ≡ get_or ys i y → P (x, y)
      → At i P (zip xs ys)
  at_zip P i [] ys x y l m e d h = absurd (omega (arith, l))
  at_zip P i (a ∷ xs) [] x y l m e d h = absurd (omega (arith, m))
  at_zip P zero (a ∷ xs) (b ∷ ys) x y l m e d h =
      ((x, y), omega arith, ap₂ (λ p q. (p, q)) (sym e) (sym d), h)
  at_zip P (suc i) (a ∷ xs) (b ∷ ys) x y l m e d h =
      further P i (a, b) (zip xs ys)
      (at_zip P i xs ys x y (omega (arith, l)) (omega (arith, m)) e d h)

  -- what holds at a place of both lists, and of all pairs, holds of one pair
  pub of_pair : (P : X × Y → Type 0) (R : X → Y → Type 0) (i : ℕ) (xs : List X) (ys : List Y)
      → At i P (zip xs ys) → AllZip R xs ys → (p : X × Y) × P p × R p.0 p.1
  of_pair P R i [] ys h all = absurd (omega (arith, h.1))
  of_pair P R i (a ∷ xs) [] h all = absurd all
  of_pair P R zero (a ∷ xs) (b ∷ ys) h all = ((a, b), subst P (sym h.2) h.3, all.0)
  of_pair P R (suc i) (a ∷ xs) (b ∷ ys) h all =
      of_pair P R i xs ys (nearer P i (a, b) (zip xs ys) h) all.1

  -- the same with the place
  pub of_placed : (P : X × Y → Type 0) (R : ℕ × X → Y → Type 0) (n i k : ℕ) (xs : List X)
      (ys : List Y) → n + i ≡ k → At i P (zip xs ys) → AllZip R (enumerate_from n xs) ys
      → (p : X × Y) × P p × R (k, p.0) p.1
  of_placed P R n i k [] ys e h all = absurd (omega (arith, h.1))
  of_placed P R n i k (a ∷ xs) [] e h all = absurd all
  of_placed P R n zero k (a ∷ xs) (b ∷ ys) e h all =
      ((a, b), subst P (sym h.2) h.3, subst (λ (j : ℕ). R (j, a) b) (omega (arith, e)) all.0)
  of_placed P R n (suc i) k (a ∷ xs) (b ∷ ys) e h all =
      of_placed P R (n + 1) i k xs ys (omega (arith, e)) (nearer P i (a, b) (zip xs ys) h) all.1

  -- of each on the left
  pub of_left : (P : X × Y → Type 0) (Q : X → Type 0) (i : ℕ) (xs : List X) (ys : List Y)
      → At i P (zip xs ys) → All Q xs → (p : X × Y) × P p × Q p.0
  of_left P Q i [] ys h all = absurd (omega (arith, h.1))
  of_left P Q i (a ∷ xs) [] h all = absurd (omega (arith, h.1))
  of_left P Q zero (a ∷ xs) (b ∷ ys) h all =
      ((a, b), subst P (sym h.2) h.3, all zero a (omega arith))
  of_left P Q (suc i) (a ∷ xs) (b ∷ ys) h all =
      of_left P Q i xs ys (nearer P i (a, b) (zip xs ys) h)
      (λ k d l. all (suc k) d (omega (arith, l)))

  -- of each on the right
  pub of_right : (P Q : Y → Type 0) (i : ℕ) (xs : List X) (ys : List Y)
      → At i P ys → AllZip (λ x y. Q y) xs ys → (y : Y) × P y × Q y
  of_right P Q i [] [] h all = absurd (omega (arith, h.1))
  of_right P Q i [] (b ∷ ys) h all = absurd all
  of_right P Q i (a ∷ xs) [] h all = absurd all
  of_right P Q zero (a ∷ xs) (b ∷ ys) h all = (b, subst P (sym h.2) h.3, all.0)
  of_right P Q (suc i) (a ∷ xs) (b ∷ ys) h all =
      of_right P Q i xs ys (nearer P i b ys h) all.1

  pub right_of_all : (Q : Y → Type 0) (xs : List X) (ys : List Y) → length ys ≡ length xs
      → All Q ys → AllZip (λ x y. Q y) xs ys
  right_of_all Q [] [] e all = tt
  right_of_all Q [] (b ∷ ys) e all = absurd (omega (arith, e))
  right_of_all Q (a ∷ xs) [] e all = absurd (omega (arith, e))
  right_of_all Q (a ∷ xs) (b ∷ ys) e all = (
    all zero b (omega arith),
    right_of_all Q xs ys (omega (arith, e)) (λ k d l. all (suc k) d (omega (arith, l))),
  )

  pub all_zip-length : (R : X → Y → Type 0) (xs : List X) (ys : List Y) → AllZip R xs ys
      → length xs ≡ length ys
  all_zip-length R [] [] all = refl
  all_zip-length R [] (b ∷ ys) all = absurd all
  all_zip-length R (a ∷ xs) [] all = absurd all
  all_zip-length R (a ∷ xs) (b ∷ ys) all = ap suc (all_zip-length R xs ys all.1)

  pub placed_length : (R : ℕ × X → Y → Type 0) (n : ℕ) (xs : List X) (ys : List Y)
      → AllZip R (enumerate_from n xs) ys → length xs ≡ length ys
  placed_length R n [] [] all = refl
  placed_length R n [] (b ∷ ys) all = absurd all
  placed_length R n (a ∷ xs) [] all = absurd all
  placed_length R n (a ∷ xs) (b ∷ ys) all = ap suc (placed_length R (n + 1) xs ys all.1)

  pub left_of_placed : (R : ℕ × X → Y → Type 0) (Q : X → Type 0) (n : ℕ) (xs : List X) (ys : List Y)
      → ((k : ℕ) (x : X) (y : Y) → R (k, x) y → Q x) → AllZip R (enumerate_from n xs) ys → All Q xs
  left_of_placed R Q n [] ys f all k d l = absurd (omega (arith, l))
  left_of_placed R Q n (a ∷ xs) [] f all k d l = absurd all
  left_of_placed R Q n (a ∷ xs) (b ∷ ys) f all zero d l = f n a b all.0
  left_of_placed R Q n (a ∷ xs) (b ∷ ys) f all (suc k) d l =
      left_of_placed R Q (n + 1) xs ys f all.1 k d (omega (arith, l))

  pub left_of_all : (R : X → Y → Type 0) (Q : X → Type 0) (xs : List X) (ys : List Y)
      → ((x : X) (y : Y) → R x y → Q x) → AllZip R xs ys → All Q xs
  left_of_all R Q [] ys f all k d l = absurd (omega (arith, l))
  left_of_all R Q (a ∷ xs) [] f all k d l = absurd all
  left_of_all R Q (a ∷ xs) (b ∷ ys) f all zero d l = f a b all.0
  left_of_all R Q (a ∷ xs) (b ∷ ys) f all (suc k) d l =
      left_of_all R Q xs ys f all.1 k d (omega (arith, l))

-- vectors of one length, as lists
pub lists_of_length : {T A : Type 0} (n : ℕ) (vectors : List (Vec T A))
    → All (λ vector. vec_len vector ≡ n) vectors → All (λ values. length values ≡ n) (lists vectors)
lists_of_length n [] all k d l = absurd (omega (arith, l))
lists_of_length n (v ∷ vectors) all zero d l = sym v.ok.0 ∙ all zero v (omega arith)
lists_of_length n (v ∷ vectors) all (suc k) d l =
    lists_of_length n vectors (λ j e m. all (suc j) e (omega (arith, m))) k d (omega (arith, l))

-- what is left of two cases
pub when_none : {X : Type 0} (o : Option X) (P : Type 0) (Q : X → Type 0) → MatchOption o P Q
    → ((x : X) → o ≡ Some x → ⊥) → P
when_none None P Q h never = h
when_none (Some x) P Q h never = absurd (never x refl)
