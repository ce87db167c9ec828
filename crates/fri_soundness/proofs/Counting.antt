-- How many elements of a list, and how many pairs of two lists, pass a test.
use Rattle.std.proofs.Common.{◌≡◌, ℕ, zero, suc, ◌+◌, ◌-◌, ◌*◌, ◌<◌, ◌≤◌, List, [], ◌∷◌, length, map}
use Rattle.std.proofs.Common.{Bool, true, false, not, ◌||◌, ◌⊎◌, inl, inr, refl, ap, ◌∙◌, subst}
use Rattle.std.proofs.Common.{arith, mul-le-mul_left}
use Rattle.std.proofs.lemmas.Bool.{cases_lt, or_parts}
use Rattle.algebra.proofs.Lists.{Each, Off, Distinct}
use Rattle.fri_soundness.specs.Counting.{AllBut}

abbrev pub bit : Bool → ℕ
bit true = 1
bit false = 0

bit-both : (b : Bool) → bit b + bit (not b) ≡ 1
bit-both true = refl
bit-both false = refl

bit-or : (a b : Bool) → bit (a || b) ≤ bit a + bit b
bit-or true b = omega arith
bit-or false b = omega arith

bit-le_one : (b : Bool) → bit b ≤ 1
bit-le_one true = omega arith
bit-le_one false = omega arith

-- a decision as a test
abbrev pub is_yes : {P : Type 0} → Dec P → Bool
is_yes (yes p) = true
is_yes (no n) = false

pub from_yes : {P : Type 0} (d : Dec P) → is_yes d ≡ true → P
from_yes (yes p) e = p
from_yes (no n) e = absurd cc

pub to_yes : {P : Type 0} (d : Dec P) → P → is_yes d ≡ true
to_yes (yes p) q = refl
to_yes (no n) q = absurd (n q)

module _ {X : Type 0} where
  abbrev pub count : (X → Bool) → List X → ℕ
  count p [] = 0
  count p (x ∷ xs) = bit (p x) + count p xs

  abbrev pub total : (X → ℕ) → List X → ℕ
  total f [] = 0
  total f (x ∷ xs) = f x + total f xs

  -- whether any element passes
  abbrev pub any : (X → Bool) → List X → Bool
  any p [] = false
  any p (x ∷ xs) = p x || any p xs

  -- those that do
  abbrev pub kept_by : Bool → X → List X → List X
  kept_by true x xs = x ∷ xs
  kept_by false x xs = xs

  abbrev pub kept : (X → Bool) → List X → List X
  kept p [] = []
  kept p (x ∷ xs) = kept_by (p x) x (kept p xs)

  pub each_map : (P Q : X → Type 0) → ((x : X) → P x → Q x) → (xs : List X) → Each P xs → Each Q xs
  each_map P Q f [] h = tt
  each_map P Q f (x ∷ xs) h = (f x h.0, each_map P Q f xs h.1)

  pub each_all : (P : X → Type 0) → ((x : X) → P x) → (xs : List X) → Each P xs
  each_all P f [] = tt
  each_all P f (x ∷ xs) = (f x, each_all P f xs)

  pub total-le : (f : X → ℕ) (n : ℕ) (xs : List X) → Each (λ x. f x ≤ n) xs
      → total f xs ≤ length xs * n
  total-le f n [] h = omega arith
  total-le f n (x ∷ xs) h = omega (arith, h.0, total-le f n xs h.1)

  pub total-ge : (f : X → ℕ) (n : ℕ) (xs : List X) → Each (λ x. n ≤ f x) xs
      → length xs * n ≤ total f xs
  total-ge f n [] h = omega arith
  total-ge f n (x ∷ xs) h = omega (arith, h.0, total-ge f n xs h.1)

  pub count-both : (p : X → Bool) (xs : List X) → count p xs + count (λ x. not (p x)) xs ≡ length xs
  count-both p [] = refl
  count-both p (x ∷ xs) = omega (arith, bit-both (p x), count-both p xs)

  pub length-kept : (p : X → Bool) (xs : List X) → length (kept p xs) ≡ count p xs
  length-kept p [] = refl
  length-kept p (x ∷ xs) = by (p x) ∙ ap (λ n. bit (p x) + n) (length-kept p xs)
    where
      by : (b : Bool) → length (kept_by b x (kept p xs)) ≡ bit b + length (kept p xs)
      by true = omega arith
      by false = omega arith

  pub kept-pass : (p : X → Bool) (xs : List X) → Each (λ x. p x ≡ true) (kept p xs)
  kept-pass p [] = tt
  kept-pass p (x ∷ xs) = by (p x) refl (kept-pass p xs)
    where
      by : (b : Bool) → p x ≡ b → Each (λ x. p x ≡ true) (kept p xs) → Each (λ x. p x ≡ true) (kept_by b x (kept p xs))
      by true e rest = (e, rest)
      by false e rest = rest

  pub each-kept : (P : X → Type 0) (p : X → Bool) (xs : List X) → Each P xs → Each P (kept p xs)
  each-kept P p [] h = tt
  each-kept P p (x ∷ xs) h = by (p x) (each-kept P p xs h.1)
    where
      by : (b : Bool) → Each P (kept p xs) → Each P (kept_by b x (kept p xs))
      by true rest = (h.0, rest)
      by false rest = rest

  -- two tests together let no more through than one
  pub count-kept : (p q : X → Bool) (xs : List X) → count q (kept p xs) ≤ count q xs
  count-kept p q [] = omega arith
  count-kept p q (x ∷ xs) = by (p x) (count-kept p q xs)
    where
      by : (b : Bool) → count q (kept p xs) ≤ count q xs → count q (kept_by b x (kept p xs)) ≤ bit (q x) + count q xs
      by true rest = omega (arith, rest)
      by false rest = omega (arith, rest)

  -- where `q` lets through none of what `p` does, each element that passes `p` fails `q`
  pub none-kept : (p q : X → Bool) (xs : List X) → any q (kept p xs) ≡ false
      → Each (λ x. p x ≡ true → q x ≡ false) xs
  none-kept p q [] e = tt
  none-kept p q (x ∷ xs) e = (λ t. by (p x) t e, none-kept p q xs (rest (p x) e))
    where
      by : (b : Bool) → b ≡ true → any q (kept_by b x (kept p xs)) ≡ false → q x ≡ false
      by true t g = (or_parts (q x) (any q (kept p xs)) g).0
      by false t g = absurd cc

      rest : (b : Bool) → any q (kept_by b x (kept p xs)) ≡ false → any q (kept p xs) ≡ false
      rest true g = (or_parts (q x) (any q (kept p xs)) g).1
      rest false g = g

  pub none_each : (p : X → Bool) (xs : List X) → any p xs ≡ false → Each (λ x. p x ≡ false) xs
  none_each p [] e = tt
  none_each p (x ∷ xs) e = ((or_parts (p x) (any p xs) e).0, none_each p xs (or_parts (p x) (any p xs) e).1)

  pub any-le : (p : X → Bool) (xs : List X) → bit (any p xs) ≤ count p xs
  any-le p [] = omega arith
  any-le p (x ∷ xs) = omega (arith, bit-or (p x) (any p xs), any-le p xs)

  -- all but those that fail a test, which are few
  pub count_from_all_but : (P : X → Type 0) (fails : X → Bool) → ((x : X) → P x → fails x ≡ false)
      → (n : ℕ) (xs : List X) → AllBut P n xs → count fails xs ≤ n
  count_from_all_but P fails f n [] h = omega arith
  count_from_all_but P fails f zero (x ∷ xs) h = omega (arith, ap bit (f x h.0), count_from_all_but P fails f zero xs h.1)
  count_from_all_but P fails f (suc n) (x ∷ xs) (inl h) = omega (arith, ap bit (f x h.0), count_from_all_but P fails f (suc n) xs h.1)
  count_from_all_but P fails f (suc n) (x ∷ xs) (inr h) = omega (arith, bit-le_one (fails x), count_from_all_but P fails f n xs h)

  pub all_but_from_count : (P : X → Type 0) (fails : X → Bool) (n : ℕ) (xs : List X)
      → Each (λ x. fails x ≡ false → P x) xs → count fails xs ≤ n → AllBut P n xs
  all_but_from_count P fails n [] h l = tt
  all_but_from_count P fails zero (x ∷ xs) h l = by (fails x) refl l (all_but_from_count P fails zero xs h.1)
    where
      by : (b : Bool) → fails x ≡ b → bit b + count fails xs ≤ zero → (count fails xs ≤ zero → AllBut P zero xs) → P x × AllBut P zero xs
      by true e m rest = absurd (omega (arith, m))
      by false e m rest = (h.0 e, rest (omega (arith, m)))
  all_but_from_count P fails (suc n) (x ∷ xs) h l = by (fails x) refl l (all_but_from_count P fails n xs h.1) (all_but_from_count P fails (suc n) xs h.1)
    where
      by : (b : Bool) → fails x ≡ b → bit b + count fails xs ≤ suc n → (count fails xs ≤ n → AllBut P n xs) → (count fails xs ≤ suc n → AllBut P (suc n) xs) → (P x × AllBut P (suc n) xs) ⊎ AllBut P n xs
      by true e m fewer rest = inr (fewer (omega (arith, m)))
      by false e m fewer rest = inl (h.0 e, rest (omega (arith, m)))

module _ {X Y : Type 0} (f : X → Y) where
  pub off-kept : (p : X → Bool) (y : Y) (xs : List X) → Off y (map f xs) → Off y (map f (kept p xs))
  off-kept p y [] h = tt
  off-kept p y (x ∷ xs) h = by (p x) (off-kept p y xs h.1)
    where
      by : (b : Bool) → Off y (map f (kept p xs)) → Off y (map f (kept_by b x (kept p xs)))
      by true rest = (h.0, rest)
      by false rest = rest

  pub distinct-kept : (p : X → Bool) (xs : List X) → Distinct (map f xs) → Distinct (map f (kept p xs))
  distinct-kept p [] h = tt
  distinct-kept p (x ∷ xs) h = by (p x) (distinct-kept p xs h.1)
    where
      by : (b : Bool) → Distinct (map f (kept p xs)) → Distinct (map f (kept_by b x (kept p xs)))
      by true rest = (off-kept p (f x) xs h.0, rest)
      by false rest = rest

  pub each-mapped : (P : Y → Type 0) (xs : List X) → Each (λ x. P (f x)) xs → Each P (map f xs)
  each-mapped P [] h = tt
  each-mapped P (x ∷ xs) h = (h.0, each-mapped P xs h.1)

module _ {X Y : Type 0} (m : X → Y → Bool) where
  total-none : (xs : List X) → total (λ x. count (m x) []) xs ≡ 0
  total-none [] = refl
  total-none (x ∷ xs) = omega (arith, total-none xs)

  total-more : (y : Y) (ys : List Y) (xs : List X) → total (λ x. count (m x) (y ∷ ys)) xs ≡ count (λ x. m x y) xs + total (λ x. count (m x) ys) xs
  total-more y ys [] = refl
  total-more y ys (x ∷ xs) = omega (arith, total-more y ys xs)

  -- counting the pairs by either list comes to the same
  pub counted_both_ways : (xs : List X) (ys : List Y) → total (λ x. count (m x) ys) xs ≡ total (λ y. count (λ x. m x y) xs) ys
  counted_both_ways xs [] = total-none xs
  counted_both_ways xs (y ∷ ys) = total-more y ys xs ∙ ap (λ n. count (λ x. m x y) xs + n) (counted_both_ways xs ys)

  count-any-le : (xs : List X) (ys : List Y) → count (λ y. any (λ x. m x y) xs) ys ≤ total (λ y. count (λ x. m x y) xs) ys
  count-any-le xs [] = omega arith
  count-any-le xs (y ∷ ys) = omega (arith, any-le (λ x. m x y) xs, count-any-le xs ys)

  -- if each of `xs` takes at most `n` of `ys`, all of them take few
  pub any_few : (n : ℕ) (xs : List X) (ys : List Y) → Each (λ x. count (m x) ys ≤ n) xs
      → count (λ y. any (λ x. m x y) xs) ys ≤ length xs * n
  any_few n xs ys h = omega (arith, count-any-le xs ys, counted_both_ways xs ys, total-le (λ x. count (m x) ys) n xs h)

too_many : (n r l e : ℕ) → l * (e + 1) < n → n * (r + 1) ≤ (e + 1 + r) * l → ⊥
too_many n r l e many h =
    let le : l ≤ n = omega (arith, many, mul-le-mul_left l (let o : 1 ≤ e + 1 = omega arith in o)) in
    omega (arith, many, h, mul-le-mul_left r le)

few_from_product : (n t l e : ℕ) → l * (e + 1) < n → n * (t - e) ≤ t * l → t ≤ e
few_from_product n t l e many h = elim (cases_lt e t) [
  | inr le ↦ le
  | inl lt ↦ absurd (too_many n (t - (e + 1)) l e many
      (let a : t - e ≡ t - (e + 1) + 1 = omega (arith, lt) in
      let b : t ≡ e + 1 + (t - (e + 1)) = omega (arith, lt) in
      subst (λ v. n * v ≤ (e + 1 + (t - (e + 1))) * l) a (subst (λ v. n * (t - e) ≤ v * l) b h)))
]

-- Double counting: if each of `ts` passes with at most `l` of `ws`, while each of `ws` fails with at
-- most `e` of `ts`, then many of `ws` leave room for at most `e` of `ts`.
pub few_from_pairs : {W T : Type 0} (m : W → T → Bool) (l e : ℕ) (ws : List W) (ts : List T)
    → Each (λ t. count (λ w. m w t) ws ≤ l) ts → Each (λ w. count (λ t. not (m w t)) ts ≤ e) ws
    → l * (e + 1) < length ws → length ts ≤ e
few_from_pairs {W} {T} m l e ws ts few most many =
    few_from_product (length ws) (length ts) l e many
    (omega (
      arith,
      total-ge (λ w. count (m w) ts) (length ts - e) ws
          (each_map (λ (w : W). count (λ t. not (m w t)) ts ≤ e) (λ (w : W). length ts - e ≤ count (m w) ts)
          (λ w h. omega (arith, h, count-both (m w) ts)) ws most),
      counted_both_ways m ws ts,
      total-le (λ t. count (λ w. m w t) ws) l ts few,
    ))
