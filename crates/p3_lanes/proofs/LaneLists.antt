-- Lists of lanes, lane by lane.
use Rattle.std.proofs.Common.{◌≡◌, ℕ, zero, suc, ◌-◌, List, [], ◌∷◌, length, map, refl, ap, ◌∙◌, arith}
use Rattle.std.specs.Prelude.{replicate}
use Rattle.std.specs.Simd.Lanes.{zip2, Each1, Each2}

pub map_same : {A : Type 0} (xs : List A) → map (λ x. x) xs ≡ xs
map_same [] = refl
map_same (x ∷ xs) = ap (λ ys. x ∷ ys) (map_same xs)

-- an operation with one number in each lane
pub zip2_one : {A B C : Type 0} (f : A → B → C) (xs : List A) (n : ℕ) (b : B) → length xs ≡ n
    → zip2 f xs (replicate n b) ≡ map (λ x. f x b) xs
zip2_one f [] zero b e = refl
zip2_one f [] (suc n) b e = absurd (omega (arith, e))
zip2_one f (x ∷ xs) zero b e = absurd (omega (arith, e))
zip2_one f (x ∷ xs) (suc n) b e = ap (λ ys. f x b ∷ ys) (zip2_one f xs n b (omega (arith, e)))

-- an operation with what was computed of the same lanes
pub zip2_map : {A B C : Type 0} (f : A → B → C) (g : A → B) (xs : List A)
    → zip2 f xs (map g xs) ≡ map (λ x. f x (g x)) xs
zip2_map f g [] = refl
zip2_map f g (x ∷ xs) = ap (λ ys. f x (g x) ∷ ys) (zip2_map f g xs)

pub zip2_maps : {A B C D : Type 0} (f : B → C → D) (g : A → B) (h : A → C) (xs : List A)
    → zip2 f (map g xs) (map h xs) ≡ map (λ x. f (g x) (h x)) xs
zip2_maps f g h [] = refl
zip2_maps f g h (x ∷ xs) = ap (λ ys. f (g x) (h x) ∷ ys) (zip2_maps f g h xs)

pub map_twice : {A B C : Type 0} (f : B → C) (g : A → B) (xs : List A)
    → map f (map g xs) ≡ map (λ x. f (g x)) xs
map_twice f g [] = refl
map_twice f g (x ∷ xs) = ap (λ ys. f (g x) ∷ ys) (map_twice f g xs)

module _ {A B : Type 0} (P : A → Type 0) where
  pub map_equal : (f g : A → B) → ((x : A) → P x → f x ≡ g x) → (xs : List A) → Each1 P xs
      → map f xs ≡ map g xs
  map_equal f g h [] t = refl
  map_equal f g h (x ∷ xs) t = cons_equal (h x t.0) (map_equal f g h xs t.1)
    where
      cons_equal : {a b : B} {cs ds : List B} → a ≡ b → cs ≡ ds → (a ∷ cs) ≡ (b ∷ ds)
      cons_equal {b = b} {cs = cs} e es = ap (λ c. c ∷ cs) e ∙ ap (λ ts. b ∷ ts) es

  pub each_map : (Q : B → Type 0) (f : A → B) → ((x : A) → P x → Q (f x)) → (xs : List A)
      → Each1 P xs → Each1 Q (map f xs)
  each_map Q f h [] t = tt
  each_map Q f h (x ∷ xs) t = (h x t.0, each_map Q f h xs t.1)

  pub each_one : (R : A → B → Type 0) (b : B) → ((x : A) → P x → R x b) → (xs : List A) (n : ℕ)
      → Each1 P xs → Each2 R xs (replicate n b)
  each_one R b h [] n t = tt
  each_one R b h (x ∷ xs) zero t = tt
  each_one R b h (x ∷ xs) (suc n) t = (h x t.0, each_one R b h xs n t.1)

  pub each_with_map : (R : A → B → Type 0) (f : A → B) → ((x : A) → P x → R x (f x))
      → (xs : List A) → Each1 P xs → Each2 R xs (map f xs)
  each_with_map R f h [] t = tt
  each_with_map R f h (x ∷ xs) t = (h x t.0, each_with_map R f h xs t.1)

  pub each_maps : {C : Type 0} (R : B → C → Type 0) (f : A → B) (g : A → C)
      → ((x : A) → P x → R (f x) (g x)) → (xs : List A) → Each1 P xs
      → Each2 R (map f xs) (map g xs)
  each_maps R f g h [] t = tt
  each_maps R f g h (x ∷ xs) t = (h x t.0, each_maps R f g h xs t.1)

module _ {A B C : Type 0} (P : A → Type 0) (Q : B → Type 0) where
  pub each_zip2 : (R : C → Type 0) (f : A → B → C) → ((x : A) (y : B) → P x → Q y → R (f x y))
      → (xs : List A) (ys : List B) → Each1 P xs → Each1 Q ys → Each1 R (zip2 f xs ys)
  each_zip2 R f h [] ys s t = tt
  each_zip2 R f h (x ∷ xs) [] s t = tt
  each_zip2 R f h (x ∷ xs) (y ∷ ys) s t = (h x y s.0 t.0, each_zip2 R f h xs ys s.1 t.1)

pub map_zip2 : {A B C D : Type 0} (g : C → D) (f : A → B → C) (xs : List A) (ys : List B)
    → map g (zip2 f xs ys) ≡ zip2 (λ x y. g (f x y)) xs ys
map_zip2 g f [] ys = refl
map_zip2 g f (x ∷ xs) [] = refl
map_zip2 g f (x ∷ xs) (y ∷ ys) = ap (λ zs. g (f x y) ∷ zs) (map_zip2 g f xs ys)

-- an operation of one number with each lane
pub one_zip2 : {A B C : Type 0} (f : A → B → C) (n : ℕ) (a : A) (ys : List B) → length ys ≡ n
    → zip2 f (replicate n a) ys ≡ map (λ y. f a y) ys
one_zip2 f zero a [] e = refl
one_zip2 f (suc n) a [] e = absurd (omega (arith, e))
one_zip2 f zero a (y ∷ ys) e = absurd (omega (arith, e))
one_zip2 f (suc n) a (y ∷ ys) e = ap (λ zs. f a y ∷ zs) (one_zip2 f n a ys (omega (arith, e)))

pub one_each : {A B : Type 0} (Q : B → Type 0) (R : A → B → Type 0) (a : A)
    → ((y : B) → Q y → R a y) → (n : ℕ) (ys : List B) → Each1 Q ys → Each2 R (replicate n a) ys
one_each Q R a h zero ys t = tt
one_each Q R a h (suc n) [] t = tt
one_each Q R a h (suc n) (y ∷ ys) t = (h y t.0, one_each Q R a h n ys t.1)

pub zip2_map_right : {A B C D : Type 0} (f : A → C → D) (g : B → C) (xs : List A) (ys : List B)
    → zip2 f xs (map g ys) ≡ zip2 (λ x y. f x (g y)) xs ys
zip2_map_right f g [] ys = refl
zip2_map_right f g (x ∷ xs) [] = refl
zip2_map_right f g (x ∷ xs) (y ∷ ys) = ap (λ zs. f x (g y) ∷ zs) (zip2_map_right f g xs ys)

-- the modulus less each of eight numbers
pub modulus_less : (ns : List ℕ) → length ns ≡ 8
    → zip2 (λ n m. n - m) (replicate 8 2013265921) ns ≡ map (λ n. 2013265921 - n) ns
modulus_less ns e = one_zip2 (λ n m. n - m) 8 2013265921 ns e
