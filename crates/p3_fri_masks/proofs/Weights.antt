-- The weights of chunks, by products over the chunks before one and after it.
use Rattle.std.proofs.Common.{◌≡◌, ◌≢◌, ℕ, zero, suc, ◌+◌, ◌<◌, ◌≤◌, List, [], ◌∷◌, ◌++◌, length, map, All}
use Rattle.std.proofs.Common.{take, drop, get_or, refl, sym, ap, ap₂, ◌∙◌, arith}
use Rattle.std.proofs.lemmas.List.{get_or-map, length-map, take_more, map-append, take_all}
use Rattle.algebra.specs.Field.{FieldOps, IsRing, IsField}
use Rattle.algebra.specs.Cosets.{vanishing}
use Rattle.algebra.specs.Polynomial.{tabulate}
use Rattle.algebra.specs.Products.{product}
use Rattle.algebra.specs.RecombinedQuotients.{product_below, product_but, chunk_weight, ChunksApart}
use Rattle.algebra.proofs.RingLaws.{one_mul, mul_zero}
use Rattle.algebra.proofs.Combine.{inverse_unique}
use Rattle.algebra.proofs.Lists.{tabulate-equal, get_or-tabulate, map-tabulate, length-tabulate}
use Rattle.algebra.proofs.Products.{product-append}
use Rattle.algebra.proofs.QuotientMasks.{others-nonzero}
use Rattle.p3_fri_masks.specs.QuotientMasks.{mask_factors}

module _ {A C : Type 0} (F : FieldOps A) (R : IsRing F) where
  infixl 70 ◌⊗◌
  open F use {one as 𝟙, mul as ◌⊗◌}

  -- one factor more
  pub product-more : (z : C → A) (chunks : List C) (i : ℕ) (c : C) → i < length chunks
      → c ≡ get_or chunks i c → product F (map z (take (i + 1) chunks))
      ≡ product F (map z (take i chunks)) ⊗ z c
  product-more z chunks i c l is =
      ap (λ cs. product F (map z cs))
      (take_more chunks i c l ∙ ap (λ x. take i chunks ++ x ∷ []) (sym is))
      ∙ ap (λ xs. product F xs) (map-append z (take i chunks) (c ∷ []))
      ∙ product-append F R (map z (take i chunks)) (z c ∷ [])
      ∙ ap (λ x. product F (map z (take i chunks)) ⊗ x) (R.mul_one (z c))

  pub product-whole : (z : C → A) (chunks : List C) (i : ℕ) → length chunks ≤ i
      → product F (map z (take i chunks)) ≡ product F (map z chunks)
  product-whole z chunks i l = ap (λ cs. product F (map z cs)) (take_all i chunks l)

  product-below : (z : C → A) (f : ℕ → A) (chunks : List C)
      → ((j : ℕ) (d : C) → j < length chunks → f j ≡ z (get_or chunks j d))
      → product F (map z chunks) ≡ product_below F (length chunks) f
  product-below z f [] h = refl
  product-below z f (c ∷ chunks) h =
      ap₂ (λ a b. a ⊗ b) (sym (h zero c (omega arith)))
      (product-below z (λ j. f (suc j)) chunks (λ j d l. h (suc j) d (omega (arith, l))))

  -- the product over all but one, in two parts
  product-but : (z : C → A) (f : ℕ → A) (chunks : List C) (i : ℕ) → i < length chunks
      → ((j : ℕ) (d : C) → j < length chunks → j ≢ i → f j ≡ z (get_or chunks j d))
      → product F (map z (take i chunks)) ⊗ product F (map z (drop (suc i) chunks))
      ≡ product_but F (length chunks) i f
  product-but z f [] i l h = absurd (omega (arith, l))
  product-but z f (c ∷ chunks) zero l h =
      one_mul F R (product F (map z chunks))
      ∙ product-below z (λ j. f (suc j)) chunks
      (λ j d b. h (suc j) d (omega (arith, b)) (λ e. omega (arith, e)))
  product-but z f (c ∷ chunks) (suc i) l h =
      R.mul_assoc (z c) (product F (map z (take i chunks))) (product F (map z (drop (suc i) chunks)))
      ∙ ap₂ (λ a b. a ⊗ b) (sym (h zero c (omega arith) (λ e. omega (arith, e))))
      (product-but z (λ j. f (suc j)) chunks i (omega (arith, l))
      (λ j d b n. h (suc j) d (omega (arith, b)) (λ e. n (omega (arith, e)))))

-- chunks with the shifts and the sizes of their cosets
module _ {A C : Type 0} (F : FieldOps A) (R : IsRing F) (shift : C → A) (log_size : C → ℕ) where
  pub product_over_others : (k : ℕ) (chunks : List C) (i : ℕ) (p : A) → i < length chunks
      → All (λ n. n ≡ k) (map log_size chunks) → p ≡ get_or (map shift chunks) i F.zero
      → F.mul (product F (map (λ c. vanishing F (shift c) (log_size c) p) (take i chunks)))
      (product F (map (λ c. vanishing F (shift c) (log_size c) p) (drop (i + 1) chunks)))
      ≡ product_but F (length chunks) i (λ j. vanishing F (get_or (map shift chunks) j F.zero) k
      (get_or (map shift chunks) i F.zero))
  product_over_others k chunks i p l sizes at =
      ap (λ n. F.mul (product F (map (λ c. vanishing F (shift c) (log_size c) p) (take i chunks)))
      (product F (map (λ c. vanishing F (shift c) (log_size c) p) (drop n chunks))))
      (let e : i + 1 ≡ suc i = omega arith in e)
      ∙ product-but F R (λ c. vanishing F (shift c) (log_size c) p)
      (λ j. vanishing F (get_or (map shift chunks) j F.zero) k (get_or (map shift chunks) i F.zero))
      chunks i l
      (λ j d b n. ap (λ s. vanishing F s k (get_or (map shift chunks) i F.zero))
      (get_or-map shift chunks j d F.zero b)
      ∙ ap₂ (λ m x. vanishing F (shift (get_or chunks j d)) m x) (sym (size_at j d b)) (sym at))
    where
      size_at : (j : ℕ) (d : C) → j < length chunks → log_size (get_or chunks j d) ≡ k
      size_at j d b = sym (get_or-map log_size chunks j d 0 b)
          ∙ sizes j 0 (omega (arith, b, length-map chunks log_size))

-- the inverse of an inverse
pub inverse_twice : {A : Type 0} (F : FieldOps A) → IsField F → (x : A) → x ≢ F.zero
    → x ≡ F.inv (F.inv x)
inverse_twice F L x n =
    inverse_unique F L (F.inv x) x off (L.mul_comm (F.inv x) x ∙ L.mul_inv x n)
  where
    off : F.inv x ≢ F.zero
    off e = L.one_not_zero (sym (L.mul_inv x n) ∙ ap (λ y. F.mul x y) e
        ∙ mul_zero F L.ring x)

-- of `n` disjoint cosets
module _ {A : Type 0} (F : FieldOps A) (L : IsField F) (n k : ℕ) (s : ℕ → A)
    (apart : ChunksApart F n k s) where
  -- the product over the others of their vanishing polynomials, at the first point of coset `i`
  abbrev pub others : ℕ → A
  others i = product_but F n i (λ j. vanishing F (s j) k (s i))

  pub no_product_zero : (xs : List A) → xs ≡ tabulate n others → All (λ x. x ≢ F.zero) xs
  no_product_zero xs e i d l z =
      others-nonzero F L n k s apart i below
      (sym (ap (λ ys. get_or ys i d) e ∙ get_or-tabulate n others i d below) ∙ z)
    where
      below : i < n
      below = omega (arith, l, ap length e, length-tabulate n others)

  -- the inverse of such a product is the chunk's weight
  pub weight_at : (products weights : List A) (i : ℕ) (d : A) → products ≡ tabulate n others
      → weights ≡ map F.inv products → i < n → get_or weights i d ≡ chunk_weight F n k s i
  unfolding chunk_weight
  weight_at products weights i d e w l =
      ap (λ ys. get_or ys i d) (w ∙ ap (λ xs. map F.inv xs) e ∙ map-tabulate F.inv n others)
      ∙ get_or-tabulate n (λ j. F.inv (others j)) i d l

  pub product_at : (products : List A) (i : ℕ) (d : A) → products ≡ tabulate n others → i < n
      → get_or products i d ≡ others i
  product_at products i d e l = ap (λ ys. get_or ys i d) e ∙ get_or-tabulate n others i d l

  weight_inverted : (i : ℕ) → i < n → others i ≡ F.inv (chunk_weight F n k s i)
  unfolding chunk_weight
  weight_inverted i l = inverse_twice F L (others i) (others-nonzero F L n k s apart i l)

  pub factors_are : (m : ℕ) → n ≡ suc m
      → tabulate m (λ i. F.mul (chunk_weight F n k s i) (others m))
      ≡ tabulate m (λ i. F.mul (chunk_weight F (suc m) k s i) (F.inv (chunk_weight F (suc m) k s m)))
  factors_are m e =
      tabulate-equal m (λ i. F.mul (chunk_weight F n k s i) (others m))
      (λ i. F.mul (chunk_weight F n k s i) (F.inv (chunk_weight F n k s m)))
      (λ i l. ap (λ x. F.mul (chunk_weight F n k s i) x) (weight_inverted m (omega (arith, e))))
      ∙ ap (λ c. tabulate m (λ i. F.mul (chunk_weight F c k s i) (F.inv (chunk_weight F c k s m)))) e

pub length-mask_factors : {A : Type 0} (F : FieldOps A) (m k : ℕ) (shifts : List A)
    → length (mask_factors F m k shifts) ≡ m
length-mask_factors F m k shifts =
    length-tabulate m (λ i. F.mul (chunk_weight F (suc m) k (λ j. get_or shifts j F.zero) i)
    (F.inv (chunk_weight F (suc m) k (λ j. get_or shifts j F.zero) m)))
