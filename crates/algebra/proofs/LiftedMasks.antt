-- Masks of the chunks of a quotient cancel out at the points of an extension too.
use Rattle.std.proofs.Common.{◌≡◌, ◌≢◌, ℕ, zero, suc, ◌^◌, ◌<◌, List, [], ◌∷◌, ◌++◌, length, map}
use Rattle.std.proofs.Common.{replicate, refl, sym, ap, ap₂, ◌∙◌, subst, arith}
use Rattle.std.proofs.lemmas.List.{length-map}
use Rattle.algebra.specs.Field.{FieldOps, IsField, IsHomomorphism, sub, pow}
use Rattle.algebra.specs.Lists.{add_lists}
use Rattle.algebra.specs.Polynomial.{val}
use Rattle.algebra.specs.Cosets.{vanishing}
use Rattle.algebra.specs.RecombinedQuotients.{product_below, product_but, ChunksApart, recombined}
use Rattle.algebra.specs.RecombinedQuotients.{chunk_weight, masked_chunk, combined, last_mask}
use Rattle.algebra.proofs.Powers.{homomorphism-pow}
use Rattle.algebra.proofs.Lifting.{homomorphism-neg, homomorphism-sub, homomorphism-inv}
use Rattle.algebra.proofs.Lifting.{homomorphism-nonzero}
use Rattle.algebra.proofs.QuotientMasks.{masks_cancel, last_cancels, val-masked_chunk}
use Rattle.algebra.proofs.QuotientMasks.{val-last_mask, others-nonzero, weight-nonzero}

module _ {A E : Type 0} (F : FieldOps A) (K : FieldOps E) (lift : A → E) (L : IsField F)
    (M : IsField K) (H : IsHomomorphism F K lift) where
  lifted_sums : (c d : List A)
      → map lift (add_lists F c d) ≡ add_lists K (map lift c) (map lift d)
  lifted_sums [] d = refl
  lifted_sums (c ∷ cs) [] = refl
  lifted_sums (c ∷ cs) (d ∷ ds) = ap₂ (λ x xs. x ∷ xs) (H.add c d) (lifted_sums cs ds)

  lifted_multiples : (a : A) (c : List A)
      → map lift (map (λ x. F.mul a x) c) ≡ map (λ x. K.mul (lift a) x) (map lift c)
  lifted_multiples a [] = refl
  lifted_multiples a (c ∷ cs) = ap₂ (λ x xs. x ∷ xs) (H.mul a c) (lifted_multiples a cs)

  lifted_joined : (c d : List A) → map lift (c ++ d) ≡ map lift c ++ map lift d
  lifted_joined [] d = refl
  lifted_joined (c ∷ cs) d = ap (λ xs. lift c ∷ xs) (lifted_joined cs d)

  lifted_zeros : (n : ℕ) → map lift (replicate n F.zero) ≡ replicate n K.zero
  lifted_zeros zero = refl
  lifted_zeros (suc n) = ap₂ (λ x xs. x ∷ xs) H.zero (lifted_zeros n)

  lifted_minus_one : lift (F.neg F.one) ≡ K.neg K.one
  lifted_minus_one = homomorphism-neg F K lift L.ring M.ring H F.one ∙ ap K.neg H.one

  lifted_vanishing : (s : A) (k : ℕ) (x : A) → s ≢ F.zero
      → lift (vanishing F s k x) ≡ vanishing K (lift s) k (lift x)
  lifted_vanishing s k x off =
      homomorphism-sub F K lift L.ring M.ring H (pow F (F.mul x (F.inv s)) (2 ^ k)) F.one
      ∙ ap₂ (λ a b. sub K a b)
      (homomorphism-pow F K lift H (F.mul x (F.inv s)) (2 ^ k)
      ∙ ap (λ a. pow K a (2 ^ k)) (H.mul x (F.inv s)
      ∙ ap (λ a. K.mul (lift x) a) (homomorphism-inv F K lift L M H s off)))
      H.one

  lifted_masked_chunk : (s : A) (k : ℕ) (q t : List A) → s ≢ F.zero
      → map lift (masked_chunk F s k q t) ≡ masked_chunk K (lift s) k (map lift q) (map lift t)
  lifted_masked_chunk s k q t off =
      lifted_joined (add_lists F q (map (λ a. F.mul (F.neg F.one) a) t))
      (map (λ a. F.mul (pow F (F.inv s) (2 ^ k)) a) t)
      ∙ ap₂ (λ xs ys. xs ++ ys)
      (lifted_sums q (map (λ a. F.mul (F.neg F.one) a) t)
      ∙ ap (λ xs. add_lists K (map lift q) xs) (lifted_multiples (F.neg F.one) t
      ∙ ap (λ a. map (λ x. K.mul a x) (map lift t)) lifted_minus_one))
      (lifted_multiples (pow F (F.inv s) (2 ^ k)) t
      ∙ ap (λ a. map (λ x. K.mul a x) (map lift t))
      (homomorphism-pow F K lift H (F.inv s) (2 ^ k)
      ∙ ap (λ a. pow K a (2 ^ k)) (homomorphism-inv F K lift L M H s off)))

  lifted_product : (n : ℕ) (f : ℕ → A) (g : ℕ → E) → ((j : ℕ) → j < n → lift (f j) ≡ g j)
      → lift (product_below F n f) ≡ product_below K n g
  lifted_product zero f g h = H.one
  lifted_product (suc n) f g h =
      H.mul (f zero) (product_below F n (λ j. f (suc j)))
      ∙ ap₂ (λ x y. K.mul x y) (h zero (omega arith))
      (lifted_product n (λ j. f (suc j)) (λ j. g (suc j)) (λ j l. h (suc j) (omega (arith, l))))

  lifted_others : (n i : ℕ) (f : ℕ → A) (g : ℕ → E) → ((j : ℕ) → j < n → lift (f j) ≡ g j)
      → lift (product_but F n i f) ≡ product_but K n i g
  lifted_others zero i f g h = H.one
  lifted_others (suc n) zero f g h =
      lifted_product n (λ j. f (suc j)) (λ j. g (suc j)) (λ j l. h (suc j) (omega (arith, l)))
  lifted_others (suc n) (suc i) f g h =
      H.mul (f zero) (product_but F n i (λ j. f (suc j)))
      ∙ ap₂ (λ x y. K.mul x y) (h zero (omega arith))
      (lifted_others n i (λ j. f (suc j)) (λ j. g (suc j)) (λ j l. h (suc j) (omega (arith, l))))

  lifted_combined : (m : ℕ) (c : ℕ → A) (d : ℕ → E) (t : ℕ → List A) (zeros : List A)
      → ((i : ℕ) → i < m → lift (c i) ≡ d i)
      → map lift (combined F m c t zeros) ≡ combined K m d (λ i. map lift (t i)) (map lift zeros)
  lifted_combined zero c d t zeros h = refl
  lifted_combined (suc m) c d t zeros h =
      lifted_sums (map (λ a. F.mul (c zero) a) (t zero))
      (combined F m (λ i. c (suc i)) (λ i. t (suc i)) zeros)
      ∙ ap₂ (λ xs ys. add_lists K xs ys)
      (lifted_multiples (c zero) (t zero)
      ∙ ap (λ a. map (λ x. K.mul a x) (map lift (t zero))) (h zero (omega arith)))
      (lifted_combined m (λ i. c (suc i)) (λ i. d (suc i)) (λ i. t (suc i)) zeros
      (λ i l. h (suc i) (omega (arith, l))))

  -- of chunks that are apart, with shifts other than zero
  module _ (n k : ℕ) (s : ℕ → A) (apart : ChunksApart F n k s)
      (off : (i : ℕ) → i < n → s i ≢ F.zero) where
    pub lifted_apart : ChunksApart K n k (λ i. lift (s i))
    lifted_apart i j l m d e =
        homomorphism-nonzero F K lift L M H (vanishing F (s j) k (s i)) (apart i j l m d)
        (lifted_vanishing (s j) k (s i) (off j m) ∙ e)

    lifted_weight : (i : ℕ) → i < n
        → lift (chunk_weight F n k s i) ≡ chunk_weight K n k (λ j. lift (s j)) i
    unfolding chunk_weight
    lifted_weight i l =
        homomorphism-inv F K lift L M H (product_but F n i (λ j. vanishing F (s j) k (s i)))
        (others-nonzero F L n k s apart i l)
        ∙ ap K.inv (lifted_others n i (λ j. vanishing F (s j) k (s i))
        (λ j. vanishing K (lift (s j)) k (lift (s i)))
        (λ j m. lifted_vanishing (s j) k (s i) (off j m)))

    lifted_factor : (i l : ℕ) → i < n → l < n
        → lift (F.mul (chunk_weight F n k s i) (F.inv (chunk_weight F n k s l)))
        ≡ K.mul (chunk_weight K n k (λ j. lift (s j)) i)
        (K.inv (chunk_weight K n k (λ j. lift (s j)) l))
    lifted_factor i l a b =
        H.mul (chunk_weight F n k s i) (F.inv (chunk_weight F n k s l))
        ∙ ap₂ (λ x y. K.mul x y) (lifted_weight i a)
        (homomorphism-inv F K lift L M H (chunk_weight F n k s l)
        (weight-nonzero F L n k s apart l b)
        ∙ ap K.inv (lifted_weight l b))

  lifted_last_mask : (m k : ℕ) (s : ℕ → A) (t : ℕ → List A) → ChunksApart F (suc m) k s
      → ((i : ℕ) → i < suc m → s i ≢ F.zero)
      → map lift (last_mask F m k s t)
      ≡ last_mask K m k (λ i. lift (s i)) (λ i. map lift (t i))
  lifted_last_mask m k s t apart off =
      lifted_multiples (F.neg F.one) (combined F m (λ i. F.mul (chunk_weight F (suc m) k s i)
      (F.inv (chunk_weight F (suc m) k s m))) t (replicate (2 ^ k) F.zero))
      ∙ ap₂ (λ a xs. map (λ x. K.mul a x) xs) lifted_minus_one
      (lifted_combined m (λ i. F.mul (chunk_weight F (suc m) k s i)
      (F.inv (chunk_weight F (suc m) k s m)))
      (λ i. K.mul (chunk_weight K (suc m) k (λ j. lift (s j)) i)
      (K.inv (chunk_weight K (suc m) k (λ j. lift (s j)) m))) t (replicate (2 ^ k) F.zero)
      (λ i l. lifted_factor (suc m) k s apart off i m (omega (arith, l)) (omega arith))
      ∙ ap (λ zeros. combined K m (λ i. K.mul (chunk_weight K (suc m) k (λ j. lift (s j)) i)
      (K.inv (chunk_weight K (suc m) k (λ j. lift (s j)) m))) (λ i. map lift (t i)) zeros)
      (lifted_zeros (2 ^ k)))

  -- chunks that are masked recombine to what they were, at each point of the extension
  pub masks_cancel_above : (m k : ℕ) (s : ℕ → A) (q t : ℕ → List A) (z : E)
      → ChunksApart F (suc m) k s → ((i : ℕ) → i < suc m → s i ≢ F.zero)
      → ((i : ℕ) → i < suc m → length (q i) ≡ 2 ^ k)
      → ((i : ℕ) → i < suc m → length (t i) ≡ 2 ^ k) → t m ≡ last_mask F m k s t
      → recombined K (suc m) k (λ i. lift (s i))
      (λ i. val K (map lift (masked_chunk F (s i) k (q i) (t i))) z) z
      ≡ recombined K (suc m) k (λ i. lift (s i)) (λ i. val K (map lift (q i)) z) z
  masks_cancel_above m k s q t z apart off lq lt e =
      masks_cancel K M (suc m) k (λ i. lift (s i)) apart_above (λ i. val K (map lift (q i)) z)
      (λ i. val K (map lift (masked_chunk F (s i) k (q i) (t i))) z)
      (λ i. val K (map lift (t i)) z) z each
      (last_cancels K M m k (λ i. lift (s i)) (λ i. val K (map lift (t i)) z) apart_above
      (val-last_mask K M m k (λ i. lift (s i)) (λ i. map lift (t i)) z
      (λ i l. length-map (t i) lift ∙ lt i l)
      (ap (λ c. map lift c) e ∙ lifted_last_mask m k s t apart off)))
    where
      apart_above : ChunksApart K (suc m) k (λ i. lift (s i))
      apart_above = lifted_apart (suc m) k s apart off

      each : (i : ℕ) → i < suc m → val K (map lift (masked_chunk F (s i) k (q i) (t i))) z
          ≡ K.add (val K (map lift (q i)) z)
          (K.mul (vanishing K (lift (s i)) k z) (val K (map lift (t i)) z))
      each i l =
          ap (λ c. val K c z) (lifted_masked_chunk (s i) k (q i) (t i) (off i l))
          ∙ val-masked_chunk K M (lift (s i)) k (map lift (q i)) (map lift (t i)) z
          (length-map (q i) lift ∙ lq i l) (length-map (t i) lift ∙ lt i l)
