-- Lists: each, distinct ones, lists by index, maps of maps, and lists paired place by place.
use Rattle.std.proofs.Common.{◌≡◌, ◌≢◌, ℕ, zero, suc, ◌<◌, List, [], ◌∷◌, length, map, refl, sym}
use Rattle.std.specs.List.{AllZip}
use Rattle.std.proofs.Common.{subst, ap, ap₂, arith, All, slice_index_or, get_or, ◌++◌, ◌+◌, ◌∙◌, suc-add}
use Rattle.algebra.specs.Polynomial.{tabulate}
use Rattle.algebra.specs.Interpolation.{AreDistinct}

-- `P` of each of `xs`, by recursion
abbrev pub Each : {A : Type 0} → (A → Type 0) → List A → Type 0
Each P [] = Unit
Each P (x ∷ xs) = P x × Each P xs

-- `x` is none of `xs`
abbrev pub Off : {A : Type 0} → A → List A → Type 0
Off x [] = Unit
Off x (y ∷ ys) = ¬ (y ≡ x) × Off x ys

-- no two of `xs` are equal, by recursion
abbrev pub Distinct : {A : Type 0} → List A → Type 0
Distinct [] = Unit
Distinct (x ∷ xs) = Off x xs × Distinct xs

pub head_eq : {A : Type 0} {a b : A} {p q : List A} → a ∷ p ≡ b ∷ q → a ≡ b
head_eq e = cc

pub tail_eq : {A : Type 0} {a b : A} {p q : List A} → a ∷ p ≡ b ∷ q → p ≡ q
tail_eq e = cc

pub map-each : {A B : Type 0} (f g : A → B) (xs : List A) → map f xs ≡ map g xs → Each (λ x. f x ≡ g x) xs
map-each f g [] e = tt
map-each f g (x ∷ xs) e = (head_eq e, map-each f g xs (tail_eq e))

-- std's word gives the recursive one
pub each_from_All : {A : Type 0} (P : A → Type 0) (xs : List A) → All P xs → Each P xs
each_from_All P [] h = tt
each_from_All P (x ∷ xs) h = (h zero x (omega arith), each_from_All P xs (λ k d l. h (suc k) d (omega (arith, l))))

pub All_from_each : {A : Type 0} (P : A → Type 0) (xs : List A) → Each P xs → All P xs
All_from_each P [] e k d l = absurd (omega (arith, l))
All_from_each P (x ∷ xs) e zero d l = e.0
All_from_each P (x ∷ xs) e (suc k) d l = All_from_each P xs e.1 k d (omega (arith, l))

pub each-append : {A : Type 0} (P : A → Type 0) (xs ys : List A) → Each P xs → Each P ys
    → Each P (xs ++ ys)
each-append P [] ys h g = g
each-append P (x ∷ xs) ys h g = (h.0, each-append P xs ys h.1 g)

pub distinct_from_AllPairs : {A : Type 0} (xs : List A) → AreDistinct xs → Distinct xs
distinct_from_AllPairs [] h = tt
distinct_from_AllPairs (x ∷ xs) h = (off x xs (λ k d l. h zero (suc k) d (omega arith) (omega (arith, l))), distinct_from_AllPairs xs (λ i j d p q. h (suc i) (suc j) d (omega (arith, p)) (omega (arith, q))))
  where
    off : {A : Type 0} (a : A) (ys : List A) → ((k : ℕ) (d : A) → k < length ys → a ≢ slice_index_or ys k d) → Off a ys
    off a [] g = tt
    off a (y ∷ ys) g = (λ e. g zero y (omega arith) (sym e), off a ys (λ k d l. g (suc k) d (omega (arith, l))))

pub AllPairs_from_distinct : {A : Type 0} (xs : List A) → Distinct xs → AreDistinct xs
AllPairs_from_distinct [] s i j d p q = absurd (omega (arith, q))
AllPairs_from_distinct (x ∷ xs) s zero zero d p q = absurd (omega (arith, p))
AllPairs_from_distinct (x ∷ xs) s zero (suc j) d p q = away x xs s.0 j d (omega (arith, q))
  where
    away : {A : Type 0} (a : A) (ys : List A) → Off a ys → (k : ℕ) (d : A) → k < length ys → a ≢ slice_index_or ys k d
    away a [] o k d l = absurd (omega (arith, l))
    away a (y ∷ ys) o zero d l = λ e. o.0 (sym e)
    away a (y ∷ ys) o (suc k) d l = away a ys o.1 k d (omega (arith, l))
AllPairs_from_distinct (x ∷ xs) s (suc i) zero d p q = absurd (omega (arith, p))
AllPairs_from_distinct (x ∷ xs) s (suc i) (suc j) d p q = AllPairs_from_distinct xs s.1 i j d (omega (arith, p)) (omega (arith, q))

pub length-tabulate : {A : Type 0} (n : ℕ) (f : ℕ → A) → length (tabulate n f) ≡ n
length-tabulate zero f = refl
length-tabulate (suc n) f = ap suc (length-tabulate n (λ j. f (suc j)))

pub get_or-tabulate : {A : Type 0} (n : ℕ) (f : ℕ → A) (i : ℕ) (d : A) → i < n → get_or (tabulate n f) i d ≡ f i
get_or-tabulate zero f i d l = absurd (omega (arith, l))
get_or-tabulate (suc n) f zero d l = refl
get_or-tabulate (suc n) f (suc i) d l = get_or-tabulate n (λ j. f (suc j)) i d (omega (arith, l))

-- a list is the row of its entries
pub tabulate-get_or : {A : Type 0} (n : ℕ) (xs : List A) (d : A) → length xs ≡ n → tabulate n (λ i. get_or xs i d) ≡ xs
tabulate-get_or zero [] d e = refl
tabulate-get_or (suc n) [] d e = absurd (omega (arith, e))
tabulate-get_or zero (x ∷ xs) d e = absurd (omega (arith, e))
tabulate-get_or (suc n) (x ∷ xs) d e = ap (λ ys. x ∷ ys) (tabulate-get_or n xs d (omega (arith, e)))

pub map-tabulate : {A B : Type 0} (g : A → B) (n : ℕ) (f : ℕ → A) → map g (tabulate n f) ≡ tabulate n (λ i. g (f i))
map-tabulate g zero f = refl
map-tabulate g (suc n) f = ap (λ ys. g (f zero) ∷ ys) (map-tabulate g n (λ i. f (suc i)))

-- one entry more
pub tabulate-next : {A : Type 0} (n : ℕ) (f : ℕ → A) → tabulate (n + 1) f ≡ tabulate n f ++ f n ∷ []
tabulate-next zero f = refl
tabulate-next (suc n) f = ap (λ k. tabulate k f) (suc-add n 1) ∙ ap (λ ys. f zero ∷ ys) (tabulate-next n (λ i. f (suc i)))

-- rows of equal entries are equal
pub tabulate-equal : {A : Type 0} (n : ℕ) (f g : ℕ → A) → ((i : ℕ) → i < n → f i ≡ g i) → tabulate n f ≡ tabulate n g
tabulate-equal zero f g h = refl
tabulate-equal (suc n) f g h = ap₂ (λ x xs. x ∷ xs) (h zero (omega arith)) (tabulate-equal n (λ i. f (suc i)) (λ i. g (suc i)) (λ i l. h (suc i) (omega (arith, l))))

-- points given by an index are distinct where the index tells them apart
pub distinct-tabulate : {A : Type 0} (n : ℕ) (f : ℕ → A) → ((i j : ℕ) → i < j → j < n → ¬ (f i ≡ f j)) → Distinct (tabulate n f)
distinct-tabulate zero f h = tt
distinct-tabulate (suc n) f h = (off-tabulate (f zero) n (λ j. f (suc j)) (λ j l e. h zero (suc j) (omega arith) (omega (arith, l)) (sym e)), distinct-tabulate n (λ j. f (suc j)) (λ i j p q. h (suc i) (suc j) (omega (arith, p)) (omega (arith, q))))
  where
    off-tabulate : {A : Type 0} (x : A) (n : ℕ) (f : ℕ → A) → ((j : ℕ) → j < n → ¬ (f j ≡ x)) → Off x (tabulate n f)
    off-tabulate x zero f h = tt
    off-tabulate x (suc n) f h = (h zero (omega arith), off-tabulate x n (λ j. f (suc j)) (λ j l. h (suc j) (omega (arith, l))))

pub map-map : {A B C : Type 0} (f : B → C) (g : A → B) (xs : List A)
    → map f (map g xs) ≡ map (λ x. f (g x)) xs
map-map f g [] = refl
map-map f g (x ∷ xs) = ap (λ ys. f (g x) ∷ ys) (map-map f g xs)

pub map-agree : {A B : Type 0} (f g : A → B) → ((x : A) → f x ≡ g x) → (xs : List A)
    → map f xs ≡ map g xs
map-agree f g same [] = refl
map-agree f g same (x ∷ xs) = ap₂ (λ y ys. y ∷ ys) (same x) (map-agree f g same xs)

-- the image of an entry stands at the entry's place
pub entry_of_map : {A B : Type 0} (f : A → B) (xs : List A) (i : ℕ) (x : A) → i < length xs
    → x ≡ get_or xs i x → f x ≡ get_or (map f xs) i (f x)
entry_of_map f [] i x l e = absurd (omega (arith, l))
entry_of_map f (y ∷ xs) zero x l e = ap f e
entry_of_map f (y ∷ xs) (suc i) x l e = entry_of_map f xs i x (omega (arith, l)) e

pub all-one : {A : Type 0} (P : A → Type 0) (xs : List A) (x : A) → xs ≡ x ∷ [] → P x → All P xs
all-one P xs x e holds zero d l = subst (λ ys. P (get_or ys zero d)) (sym e) holds
all-one P xs x e holds (suc k) d l = absurd (omega (arith, l, ap length e))

pub all-last : {A : Type 0} (P : A → Type 0) (xs : List A) (x : A) → All P (xs ++ x ∷ []) → P x
all-last P [] x each = each zero x (omega arith)
all-last P (y ∷ xs) x each = all-last P xs x (λ k d l. each (suc k) d (omega (arith, l)))

-- paired lists, with one pair more
pub all_zip-push : {A B : Type 0} (R : A → B → Type 0) (xs : List A) (ys : List B) (x : A) (y : B)
    → AllZip R xs ys → R x y → AllZip R (xs ++ x ∷ []) (ys ++ y ∷ [])
all_zip-push R [] [] x y all last = (last, tt)
all_zip-push R [] (b ∷ ys) x y all last = absurd all
all_zip-push R (a ∷ xs) [] x y all last = absurd all
all_zip-push R (a ∷ xs) (b ∷ ys) x y all last = (all.0, all_zip-push R xs ys x y all.1 last)

pub all_zip-mapped : {A B C : Type 0} (g : A → B) (R : B → C → Type 0) (xs : List A) (zs : List C)
    → AllZip (λ x z. R (g x) z) xs zs → AllZip R (map g xs) zs
all_zip-mapped g R [] [] all = tt
all_zip-mapped g R [] (z ∷ zs) all = absurd all
all_zip-mapped g R (x ∷ xs) [] all = absurd all
all_zip-mapped g R (x ∷ xs) (z ∷ zs) all = (all.0, all_zip-mapped g R xs zs all.1)

pub all_zip-weaker : {A B : Type 0} (R S : A → B → Type 0) (xs : List A) (ys : List B)
    → ((x : A) (y : B) → R x y → S x y) → AllZip R xs ys → AllZip S xs ys
all_zip-weaker R S [] [] f all = tt
all_zip-weaker R S [] (y ∷ ys) f all = absurd all
all_zip-weaker R S (x ∷ xs) [] f all = absurd all
all_zip-weaker R S (x ∷ xs) (y ∷ ys) f all = (f x y all.0, all_zip-weaker R S xs ys f all.1)
