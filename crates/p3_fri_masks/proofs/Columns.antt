-- Columns of values that lie row after row in one list.
use Rattle.std.proofs.Common.{◌≡◌, ℕ, zero, suc, ◌+◌, ◌-◌, ◌*◌, ◌^◌, ◌<◌, ◌≤◌, List, [], ◌∷◌, ◌++◌, length, map}
use Rattle.std.proofs.Common.{◌⊎◌, inl, inr, replicate, get_or, take, refl, sym, ap, ap₂, ◌∙◌, arith, suc-add, zero-add, length-append}
use Rattle.std.proofs.lemmas.Bool.{cases_lt}
use Rattle.std.proofs.lemmas.Nat.{row_fits}
use Rattle.std.proofs.lemmas.List.{length-map, length-replicate, get_or_append_left, get_or-append_right, get_or_past, take_all}
use Rattle.std.proofs.Math.ListN.{get_or-map}
use Rattle.algebra.specs.Field.{FieldOps, IsRing, pow}
use Rattle.algebra.specs.Lists.{add_lists}
use Rattle.algebra.specs.Polynomial.{tabulate}
use Rattle.algebra.specs.RecombinedQuotients.{masked_chunk, combined, chunk_weight, last_mask}
use Rattle.algebra.proofs.Lists.{length-tabulate, map-tabulate, tabulate-equal, get_or-tabulate}
use Rattle.algebra.proofs.RingLaws.{mul_zero}
use Rattle.algebra.proofs.Values.{length-add_lists}
use Rattle.p3_dft.specs.Strided.{strided}
use Rattle.p3_fri_masks.proofs.Sums.{get_or-add_lists}

tabulate-append : {A : Type 0} (m n : ℕ) (f : ℕ → A)
    → tabulate (m + n) f ≡ tabulate m f ++ tabulate n (λ i. f (m + i))
tabulate-append zero n f =
    ap (λ k. tabulate k f) (zero-add n)
    ∙ tabulate-equal n f (λ i. f (zero + i)) (λ i l. ap f (sym (zero-add i)))
tabulate-append (suc m) n f =
    ap (λ k. tabulate k f) (suc-add m n)
    ∙ ap (λ xs. f zero ∷ xs) (tabulate-append m n (λ i. f (suc i))
    ∙ ap (λ xs. tabulate m (λ i. f (suc i)) ++ xs)
    (tabulate-equal n (λ i. f (suc (m + i))) (λ i. f (suc m + i)) (λ i l. ap f (sym (suc-add m i)))))

tabulate-same : {A : Type 0} (n : ℕ) (x : A) → tabulate n (λ i. x) ≡ replicate n x
tabulate-same zero x = refl
tabulate-same (suc n) x = ap (λ xs. x ∷ xs) (tabulate-same n x)

module _ {A : Type 0} (F : FieldOps A) (R : IsRing F) where
  infixl 65 ◌⊕◌
  infixl 70 ◌⊗◌
  open F use {zero as 𝟘, one as 𝟙, add as ◌⊕◌, mul as ◌⊗◌, neg, inv}

  add-tabulate : (n : ℕ) (f g : ℕ → A)
      → add_lists F (tabulate n f) (tabulate n g) ≡ tabulate n (λ i. f i ⊕ g i)
  add-tabulate zero f g = refl
  add-tabulate (suc n) f g =
      ap (λ xs. (f zero ⊕ g zero) ∷ xs) (add-tabulate n (λ i. f (suc i)) (λ i. g (suc i)))

  entry-added : (xs ys : List A) (i : ℕ) → length xs ≡ length ys
      → get_or (add_lists F xs ys) i 𝟘 ≡ get_or xs i 𝟘 ⊕ get_or ys i 𝟘
  entry-added xs ys i e = found (cases_lt i (length xs))
    where
      found : (i < length xs) ⊎ (length xs ≤ i)
          → get_or (add_lists F xs ys) i 𝟘 ≡ get_or xs i 𝟘 ⊕ get_or ys i 𝟘
      found (inl below) = get_or-add_lists F R xs ys i 𝟘 e below
      found (inr past) =
          get_or_past (add_lists F xs ys) i 𝟘 (omega (arith, past, length-add_lists F xs ys e))
          ∙ sym (R.add_zero 𝟘)
          ∙ ap₂ (λ a b. a ⊕ b) (sym (get_or_past xs i 𝟘 past))
          (sym (get_or_past ys i 𝟘 (omega (arith, past, e))))

  pub strided-add : (w h : ℕ) (xs ys : List A) (j : ℕ) → length xs ≡ length ys
      → strided F w h (add_lists F xs ys) j ≡ add_lists F (strided F w h xs j) (strided F w h ys j)
  strided-add w h xs ys j e =
      tabulate-equal h (λ i. get_or (add_lists F xs ys) (i * w + j) 𝟘)
      (λ i. get_or xs (i * w + j) 𝟘 ⊕ get_or ys (i * w + j) 𝟘)
      (λ i l. entry-added xs ys (i * w + j) e)
      ∙ sym (add-tabulate h (λ i. get_or xs (i * w + j) 𝟘) (λ i. get_or ys (i * w + j) 𝟘))

  pub strided-scale : (w h : ℕ) (f : A) (xs : List A) (j : ℕ)
      → strided F w h (map (λ a. f ⊗ a) xs) j ≡ map (λ a. f ⊗ a) (strided F w h xs j)
  strided-scale w h f xs j =
      tabulate-equal h (λ i. get_or (map (λ a. f ⊗ a) xs) (i * w + j) 𝟘)
      (λ i. f ⊗ get_or xs (i * w + j) 𝟘)
      (λ i l. ap (λ d. get_or (map (λ a. f ⊗ a) xs) (i * w + j) d) (sym (mul_zero F R f))
      ∙ get_or-map (λ a. f ⊗ a) xs (i * w + j) 𝟘)
      ∙ sym (map-tabulate (λ a. f ⊗ a) h (λ i. get_or xs (i * w + j) 𝟘))

  pub strided-zeros : (w h n : ℕ) (j : ℕ) → strided F w h (replicate n 𝟘) j ≡ replicate h 𝟘
  strided-zeros w h n j =
      tabulate-equal h (λ i. get_or (replicate n 𝟘) (i * w + j) 𝟘) (λ i. 𝟘)
      (λ i l. same n (i * w + j))
      ∙ tabulate-same h 𝟘
    where
      same : (n i : ℕ) → get_or (replicate n 𝟘) i 𝟘 ≡ 𝟘
      same zero i = refl
      same (suc n) zero = refl
      same (suc n) (suc i) = same n i

  pub strided-append : (w h z : ℕ) (xs ys : List A) (j : ℕ) → length xs ≡ h * w → j < w
      → strided F w (h + z) (xs ++ ys) j ≡ strided F w h xs j ++ strided F w z ys j
  strided-append w h z xs ys j e l =
      tabulate-append h z (λ i. get_or (xs ++ ys) (i * w + j) 𝟘)
      ∙ ap₂ (λ xs zs. xs ++ zs)
      (tabulate-equal h (λ i. get_or (xs ++ ys) (i * w + j) 𝟘) (λ i. get_or xs (i * w + j) 𝟘)
      (λ i b. get_or_append_left xs ys 𝟘 (i * w + j)
      (omega (arith, e, l, row_fits i w h w b (omega arith)))))
      (tabulate-equal z (λ i. get_or (xs ++ ys) ((h + i) * w + j) 𝟘)
      (λ i. get_or ys (i * w + j) 𝟘) (λ i b. after i))
    where
      place : (h w i j n : ℕ) → n ≡ h * w → ((h + i) * w + j) - n ≡ i * w + j
      place h w i j n e = omega (arith, e, distribute h w i)
        where
          distribute : (h w i : ℕ) → (h + i) * w ≡ h * w + i * w
          distribute h w i = omega arith

      beyond : (h w i j n : ℕ) → n ≡ h * w → n ≤ (h + i) * w + j
      beyond h w i j n e = omega (arith, e)

      after : (i : ℕ) → get_or (xs ++ ys) ((h + i) * w + j) 𝟘 ≡ get_or ys (i * w + j) 𝟘
      after i =
          get_or-append_right xs ys (length xs) ((h + i) * w + j) 𝟘 refl (beyond h w i j (length xs) e)
          ∙ ap (λ n. get_or ys n 𝟘) (place h w i j (length xs) e)

  pub length-strided : (w h : ℕ) (xs : List A) (j : ℕ) → length (strided F w h xs j) ≡ h
  length-strided w h xs j = length-tabulate h (λ i. get_or xs (i * w + j) 𝟘)

  -- column by column, a chunk's coefficients with its mask
  pub strided-masked_chunk : (s : A) (k w : ℕ) (cs ts : List A) (j : ℕ) → length cs ≡ 2 ^ k * w
      → length ts ≡ 2 ^ k * w → j < w
      → strided F w (2 ^ k + 2 ^ k) (masked_chunk F s k cs ts) j
      ≡ masked_chunk F s k (strided F w (2 ^ k) cs j) (strided F w (2 ^ k) ts j)
  strided-masked_chunk s k w cs ts j a b l =
      let minus_t = map (λ a. neg 𝟙 ⊗ a) ts in
      let same : length cs ≡ length minus_t = a ∙ sym (length-map ts (λ a. neg 𝟙 ⊗ a) ∙ b) in
      strided-append w (2 ^ k) (2 ^ k) (add_lists F cs minus_t)
      (map (λ a. pow F (inv s) (2 ^ k) ⊗ a) ts) j (length-add_lists F cs minus_t same ∙ a) l
      ∙ ap₂ (λ xs ys. xs ++ ys)
      (strided-add w (2 ^ k) cs minus_t j same
      ∙ ap (λ xs. add_lists F (strided F w (2 ^ k) cs j) xs) (strided-scale w (2 ^ k) (neg 𝟙) ts j))
      (strided-scale w (2 ^ k) (pow F (inv s) (2 ^ k)) ts j)

  pub length-masked : (s : A) (k w : ℕ) (cs ts : List A) → length cs ≡ 2 ^ k * w
      → length ts ≡ 2 ^ k * w → length (masked_chunk F s k cs ts) ≡ (2 ^ k + 2 ^ k) * w
  length-masked s k w cs ts a b =
      let minus_t = map (λ a. neg 𝟙 ⊗ a) ts in
      length-append (add_lists F cs minus_t) (map (λ a. pow F (inv s) (2 ^ k) ⊗ a) ts)
      ∙ ap₂ (λ m n. m + n)
      (length-add_lists F cs minus_t (a ∙ sym (length-map ts (λ a. neg 𝟙 ⊗ a) ∙ b)) ∙ a)
      (length-map ts (λ a. pow F (inv s) (2 ^ k) ⊗ a) ∙ b)
      ∙ (let e : 2 ^ k * w + 2 ^ k * w ≡ (2 ^ k + 2 ^ k) * w = omega arith in e)

  length-scaled : (f : A) (xs : List A) (n : ℕ) → length xs ≡ n → length (map (λ a. f ⊗ a) xs) ≡ n
  length-scaled f xs n e = length-map xs (λ a. f ⊗ a) ∙ e

  pub length-combined : (n m : ℕ) (c : ℕ → A) (t : ℕ → List A)
      → ((i : ℕ) → i < m → length (t i) ≡ n) → length (combined F m c t (replicate n 𝟘)) ≡ n
  length-combined n zero c t l = length-replicate n 𝟘
  length-combined n (suc m) c t l =
      let rest = length-combined n m (λ i. c (suc i)) (λ i. t (suc i))
      (λ i b. l (suc i) (omega (arith, b))) in
      let first = length-scaled (c zero) (t zero) n (l zero (omega arith)) in
      length-add_lists F (map (λ a. c zero ⊗ a) (t zero))
      (combined F m (λ i. c (suc i)) (λ i. t (suc i)) (replicate n 𝟘)) (first ∙ sym rest)
      ∙ first

  strided-combined : (w h n m : ℕ) (c : ℕ → A) (t : ℕ → List A) (j : ℕ)
      → ((i : ℕ) → i < m → length (t i) ≡ n)
      → strided F w h (combined F m c t (replicate n 𝟘)) j
      ≡ combined F m c (λ i. strided F w h (t i) j) (replicate h 𝟘)
  strided-combined w h n zero c t j l = strided-zeros w h n j
  strided-combined w h n (suc m) c t j l =
      let below = λ (i : ℕ) (b : i < m). l (suc i) (omega (arith, b)) in
      let first = length-scaled (c zero) (t zero) n (l zero (omega arith)) in
      strided-add w h (map (λ a. c zero ⊗ a) (t zero))
      (combined F m (λ i. c (suc i)) (λ i. t (suc i)) (replicate n 𝟘)) j
      (first ∙ sym (length-combined n m (λ i. c (suc i)) (λ i. t (suc i)) below))
      ∙ ap₂ (λ xs ys. add_lists F xs ys) (strided-scale w h (c zero) (t zero) j)
      (strided-combined w h n m (λ i. c (suc i)) (λ i. t (suc i)) j below)

  pub combined-agree : (m : ℕ) (c d : ℕ → A) (t u : ℕ → List A) (zeros : List A)
      → ((i : ℕ) → i < m → c i ≡ d i) → ((i : ℕ) → i < m → t i ≡ u i)
      → combined F m c t zeros ≡ combined F m d u zeros
  combined-agree zero c d t u zeros e g = refl
  combined-agree (suc m) c d t u zeros e g =
      ap₂ (λ xs ys. add_lists F xs ys)
      (ap₂ (λ f ys. map (λ a. f ⊗ a) ys) (e zero (omega arith)) (g zero (omega arith)))
      (combined-agree m (λ i. c (suc i)) (λ i. d (suc i)) (λ i. t (suc i)) (λ i. u (suc i)) zeros
      (λ i l. e (suc i) (omega (arith, l))) (λ i l. g (suc i) (omega (arith, l))))

  -- column by column, the last mask of lists is that of columns
  pub strided-balance : (m k w : ℕ) (s : ℕ → A) (factors : List A) (masks : List (List A)) (j : ℕ)
      (t : ℕ → List A) → factors ≡ tabulate m (λ i. chunk_weight F (suc m) k s i ⊗ inv (chunk_weight F (suc m) k s m))
      → ((i : ℕ) → i < m → length (get_or masks i []) ≡ 2 ^ k * w)
      → ((i : ℕ) → i < m → strided F w (2 ^ k) (get_or masks i []) j ≡ t i)
      → strided F w (2 ^ k) (map (λ a. neg 𝟙 ⊗ a) (combined F m (λ i. get_or factors i 𝟘)
      (λ i. get_or masks i []) (replicate (2 ^ k * w) 𝟘))) j
      ≡ last_mask F m k s t
  strided-balance m k w s factors masks j t is sizes columns =
      strided-scale w (2 ^ k) (neg 𝟙) (combined F m (λ i. get_or factors i 𝟘)
      (λ i. get_or masks i []) (replicate (2 ^ k * w) 𝟘)) j
      ∙ ap (λ xs. map (λ a. neg 𝟙 ⊗ a) xs)
      (strided-combined w (2 ^ k) (2 ^ k * w) m (λ i. get_or factors i 𝟘) (λ i. get_or masks i []) j
      sizes
      ∙ combined-agree m (λ i. get_or factors i 𝟘)
      (λ i. chunk_weight F (suc m) k s i ⊗ inv (chunk_weight F (suc m) k s m))
      (λ i. strided F w (2 ^ k) (get_or masks i []) j) t (replicate (2 ^ k) 𝟘)
      (λ i l. ap (λ fs. get_or fs i 𝟘) is
      ∙ get_or-tabulate m (λ i. chunk_weight F (suc m) k s i ⊗ inv (chunk_weight F (suc m) k s m)) i 𝟘
      l)
      columns)

  -- coefficients, less those of the mask, with these times a factor behind them, and zeros up to
  -- `size`
  pub masked_and_padded : (s : A) (k size len : ℕ) (cs ts added pushed made : List A)
      (minus_one f null : A) → length cs ≡ length ts → length ts + length ts ≤ size
      → minus_one ≡ neg 𝟙 → added ≡ add_lists F cs (map (λ a. minus_one ⊗ a) ts)
      → f ≡ pow F (inv s) (2 ^ k) → pushed ≡ added ++ map (λ a. f ⊗ a) ts → len ≡ length pushed
      → null ≡ 𝟘 → made ≡ take size pushed ++ replicate (size - len) null
      → made ≡ masked_chunk F s k cs ts ++ replicate (size - (length ts + length ts)) 𝟘
  masked_and_padded s k size len cs ts added pushed made minus_one f null same room m a e p l z is =
      is
      ∙ ap₂ (λ xs n. xs ++ replicate n null)
      (take_all size pushed (omega (arith, long, room)) ∙ all)
      (let n : size - len ≡ size - (length ts + length ts) = omega (arith, l, long) in n)
      ∙ ap (λ v. masked_chunk F s k cs ts ++ replicate (size - (length ts + length ts)) v) z
    where
      all : pushed ≡ masked_chunk F s k cs ts
      all = p ∙ ap₂ (λ xs g. xs ++ map (λ a. g ⊗ a) ts)
          (a ∙ ap (λ x. add_lists F cs (map (λ a. x ⊗ a) ts)) m) e

      long : length pushed ≡ length ts + length ts
      long =
          ap length p ∙ length-append added (map (λ a. f ⊗ a) ts)
          ∙ ap₂ (λ x y. x + y)
          (ap length a
          ∙ length-add_lists F cs (map (λ a. minus_one ⊗ a) ts)
          (same ∙ sym (length-map ts (λ a. minus_one ⊗ a))) ∙ same)
          (length-map ts (λ a. f ⊗ a))
