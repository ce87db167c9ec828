-- A quotient that is cut into chunks, each given on a domain of its own: what the chunks make
-- together, and masks that change nothing of it.
use Rattle.std.specs.Prelude.{◌≡◌, ◌≢◌, ◌<◌, ◌^◌, ℕ, zero, suc, List, [], ◌++◌}
use Rattle.std.specs.Prelude.{map, length, replicate, slice_index_or}
use Rattle.algebra.specs.Field.{FieldOps, IsField, IsHomomorphism, pow}
use Rattle.algebra.specs.Lists.{add_lists}
use Rattle.algebra.specs.Polynomial.{val, sum_below, tabulate}
use Rattle.algebra.specs.Cosets.{vanishing}

module _ {A : Type 0} (F : FieldOps A) where
  infixl 65 ◌⊕◌
  infixl 70 ◌⊗◌
  open F use {zero as 𝟘, one as 𝟙, add as ◌⊕◌, mul as ◌⊗◌, neg, inv}

  -- `f 0 * .. * f (n - 1)`
  abbrev pub product_below : ℕ → (ℕ → A) → A
  product_below zero f = 𝟙
  product_below (suc n) f = f zero ⊗ product_below n (λ j. f (suc j))

  -- the same without the factor `f i`
  abbrev pub product_but : ℕ → ℕ → (ℕ → A) → A
  product_but zero i f = 𝟙
  product_but (suc n) zero f = product_below n (λ j. f (suc j))
  product_but (suc n) (suc i) f = f zero ⊗ product_but n i (λ j. f (suc j))

  -- of `n` chunks, on the cosets of the shifts `s 0, s 1, ..` and of `2^k` points; `Z_j` is the
  -- polynomial `(X / s_j)^(2^k) - 1`, which vanishes on the coset of chunk `j`
  module _ (n k : ℕ) (s : ℕ → A) where
    -- no `Z_j` is zero at the first point of another chunk's coset
    abbrev pub ChunksApart : Type 0
    ChunksApart = (i j : ℕ) → i < n → j < n → j ≢ i → vanishing F (s j) k (s i) ≢ F.zero

    -- the product over the other chunks of `Z_j(z) / Z_j(s_i)`
    abbrev pub chunk_factor : (i : ℕ) (z : A) → A
    chunk_factor i z =
        product_but n i (λ j. vanishing F (s j) k z ⊗ inv (vanishing F (s j) k (s i)))

    -- the recombined quotient at `z`, where chunk `i` has the value `v i`: the sum of these values
    -- times their factors
    unfoldable pub recombined : (v : ℕ → A) (z : A) → A
    recombined v z = sum_below F n (λ i. v i ⊗ chunk_factor i z)

    -- the inverse of the product over the other chunks of `Z_j(s_i)`
    unfoldable pub chunk_weight : ℕ → A
    chunk_weight i = inv (product_but n i (λ j. vanishing F (s j) k (s i)))

  -- the recombined quotients at `z` of chunks with several columns, on the cosets of these shifts
  -- and of `2^k` points, where `rows` has for each chunk its columns' values there
  abbrev pub recombined_columns : (k : ℕ) (shifts : List A) (rows : List (List A)) (z : A) → List A
  recombined_columns k shifts rows z = tabulate (length (slice_index_or rows 0 []))
      (λ j. recombined (length shifts) k (λ i. slice_index_or shifts i 𝟘)
      (λ i. slice_index_or (slice_index_or rows i []) j 𝟘) z)

  -- the coefficients of `q + Z t`, where `q` and the mask `t` have `2^k` coefficients and `Z`
  -- vanishes on the coset of the shift `s`
  abbrev pub masked_chunk : (s : A) (k : ℕ) (q t : List A) → List A
  masked_chunk s k q t =
      add_lists F q (map (λ a. neg 𝟙 ⊗ a) t) ++ map (λ a. pow F (inv s) (2 ^ k) ⊗ a) t

  -- the first `m` of these lists, each times its factor, together; of none `zeros`
  abbrev pub combined : ℕ → (ℕ → A) → (ℕ → List A) → (zeros : List A) → List A
  combined zero c t zeros = zeros
  combined (suc m) c t zeros =
      add_lists F (map (λ a. c zero ⊗ a) (t zero))
      (combined m (λ i. c (suc i)) (λ i. t (suc i)) zeros)

  -- the mask of the last of `m + 1` chunks, by those of the others: the negative of the sum of
  -- `t_i` times `c_i / c_last`, with `c_i` the weight of chunk `i`
  abbrev pub last_mask : (m k : ℕ) (s : ℕ → A) (t : ℕ → List A) → List A
  last_mask m k s t = map (λ a. neg 𝟙 ⊗ a) (combined m
      (λ i. chunk_weight (suc m) k s i ⊗ inv (chunk_weight (suc m) k s m)) t
      (replicate (2 ^ k) F.zero))

-- chunks that are masked, the last by what the others' masks ask for, recombine to what they were,
-- at each point of an extension
abbrev pub MasksCancel : Type 0 → Type 0 → Type 0
MasksCancel A E = (F : FieldOps A) → IsField F → (K : FieldOps E) → IsField K
    → (lift : A → E) → IsHomomorphism F K lift
    → (m k : ℕ) (s : ℕ → A) (q t : ℕ → List A) (z : E) → ChunksApart F (suc m) k s
    → ((i : ℕ) → i < suc m → s i ≢ F.zero)
    → ((i : ℕ) → i < suc m → length (q i) ≡ 2 ^ k) → ((i : ℕ) → i < suc m → length (t i) ≡ 2 ^ k)
    → t m ≡ last_mask F m k s t
    → recombined K (suc m) k (λ i. lift (s i))
    (λ i. val K (map lift (masked_chunk F (s i) k (q i) (t i))) z) z
    ≡ recombined K (suc m) k (λ i. lift (s i)) (λ i. val K (map lift (q i)) z) z
