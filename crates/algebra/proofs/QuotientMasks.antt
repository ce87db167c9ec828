-- Masks of the chunks of a quotient cancel out where the chunks are recombined.
use Rattle.std.proofs.Common.{◌≡◌, ◌≢◌, ℕ, zero, suc, ◌+◌, ◌^◌, ◌<◌, List, [], length, map}
use Rattle.std.proofs.Common.{replicate, refl, sym, ap, ap₂, ◌∙◌, arith}
use Rattle.std.proofs.lemmas.List.{length-map, length-replicate}
use Rattle.algebra.specs.Field.{FieldOps, IsField, sub, pow}
use Rattle.algebra.specs.Polynomial.{val, sum_below}
use Rattle.algebra.specs.Cosets.{vanishing}
use Rattle.algebra.specs.RecombinedQuotients.{product_below, product_but, ChunksApart, chunk_factor}
use Rattle.algebra.specs.RecombinedQuotients.{recombined, chunk_weight, masked_chunk, combined}
use Rattle.algebra.specs.RecombinedQuotients.{last_mask}
use Rattle.algebra.proofs.Ring.{◌:+◌, ◌:*◌, ◌:-◌, ◌:=◌, ring, o, :1, minus}
use Rattle.algebra.proofs.RingLaws.{zero_mul}
use Rattle.algebra.proofs.Combine.{combine, inverse_unique}
use Rattle.algebra.specs.Lists.{add_lists}
use Rattle.algebra.proofs.Values.{length-add_lists, val-nil, val-append, val-add}
use Rattle.algebra.proofs.Values.{val-scale, val-padded}
use Rattle.algebra.proofs.Powers.{pow-times}
use Rattle.algebra.proofs.Sums.{sum_below-factor, sum_below-add}

module _ {A : Type 0} (F : FieldOps A) (L : IsField F) where
  infixl 65 ◌⊕◌
  infixl 70 ◌⊗◌
  open F use {zero as 𝟘, one as 𝟙, add as ◌⊕◌, mul as ◌⊗◌, neg, inv}

  sum-same : (n : ℕ) (f g : ℕ → A) → ((i : ℕ) → i < n → f i ≡ g i)
      → sum_below F n f ≡ sum_below F n g
  unfolding sum_below
  sum-same zero f g h = refl
  sum-same (suc n) f g h =
      ap₂ (λ x y. x ⊕ y) (h zero (omega arith))
      (sum-same n (λ i. f (suc i)) (λ i. g (suc i)) (λ i l. h (suc i) (omega (arith, l))))

  sum-last : (n : ℕ) (f : ℕ → A) → sum_below F (suc n) f ≡ sum_below F n f ⊕ f n
  unfolding sum_below
  sum-last zero f = L.add_comm (f zero) 𝟘
  sum-last (suc n) f =
      ap (λ s. f zero ⊕ s) (sum-last n (λ i. f (suc i)))
      ∙ sym (L.add_assoc (f zero) (sum_below F n (λ i. f (suc i))) (f (suc n)))

  -- (a b) (c d) = (a c) (b d)
  exchanged : (a b c d : A) → a ⊗ b ⊗ (c ⊗ d) ≡ a ⊗ c ⊗ (b ⊗ d)
  exchanged a b c d = ring F L.ring 4 (λ a b c d. a :* b :* (c :* d) := a :* c :* (b :* d)) refl a b c d

  product-mul : (n : ℕ) (f g : ℕ → A)
      → product_below F n (λ j. f j ⊗ g j) ≡ product_below F n f ⊗ product_below F n g
  product-mul zero f g = sym (L.mul_one 𝟙)
  product-mul (suc n) f g =
      ap (λ p. f zero ⊗ g zero ⊗ p) (product-mul n (λ j. f (suc j)) (λ j. g (suc j)))
      ∙ exchanged (f zero) (g zero) (product_below F n (λ j. f (suc j)))
      (product_below F n (λ j. g (suc j)))

  but-mul : (n i : ℕ) (f g : ℕ → A)
      → product_but F n i (λ j. f j ⊗ g j) ≡ product_but F n i f ⊗ product_but F n i g
  but-mul zero i f g = sym (L.mul_one 𝟙)
  but-mul (suc n) zero f g = product-mul n (λ j. f (suc j)) (λ j. g (suc j))
  but-mul (suc n) (suc i) f g =
      ap (λ p. f zero ⊗ g zero ⊗ p) (but-mul n i (λ j. f (suc j)) (λ j. g (suc j)))
      ∙ exchanged (f zero) (g zero) (product_but F n i (λ j. f (suc j)))
      (product_but F n i (λ j. g (suc j)))

  but-whole : (n i : ℕ) (f : ℕ → A) → i < n → f i ⊗ product_but F n i f ≡ product_below F n f
  but-whole zero i f l = absurd (omega (arith, l))
  but-whole (suc n) zero f l = refl
  but-whole (suc n) (suc i) f l =
      ring F L.ring 3 (λ a b c. a :* (b :* c) := b :* (a :* c)) refl (f (suc i)) (f zero)
      (product_but F n i (λ j. f (suc j)))
      ∙ ap (λ p. f zero ⊗ p) (but-whole n i (λ j. f (suc j)) (omega (arith, l)))

  product-inverse : (n : ℕ) (f : ℕ → A) → ((j : ℕ) → j < n → f j ≢ 𝟘)
      → product_below F n f ⊗ product_below F n (λ j. inv (f j)) ≡ 𝟙
  product-inverse zero f h = L.mul_one 𝟙
  product-inverse (suc n) f h =
      exchanged (f zero) (product_below F n (λ j. f (suc j))) (inv (f zero))
      (product_below F n (λ j. inv (f (suc j))))
      ∙ ap₂ (λ x y. x ⊗ y) (L.mul_inv (f zero) (h zero (omega arith)))
      (product-inverse n (λ j. f (suc j)) (λ j l. h (suc j) (omega (arith, l))))
      ∙ L.mul_one 𝟙

  but-inverse : (n i : ℕ) (f : ℕ → A) → ((j : ℕ) → j < n → j ≢ i → f j ≢ 𝟘)
      → product_but F n i f ⊗ product_but F n i (λ j. inv (f j)) ≡ 𝟙
  but-inverse zero i f h = L.mul_one 𝟙
  but-inverse (suc n) zero f h =
      product-inverse n (λ j. f (suc j))
      (λ j l. h (suc j) (omega (arith, l)) (λ e. omega (arith, e)))
  but-inverse (suc n) (suc i) f h =
      exchanged (f zero) (product_but F n i (λ j. f (suc j))) (inv (f zero))
      (product_but F n i (λ j. inv (f (suc j))))
      ∙ ap₂ (λ x y. x ⊗ y) (L.mul_inv (f zero) (h zero (omega arith) (λ e. omega (arith, e))))
      (but-inverse n i (λ j. f (suc j))
      (λ j l d. h (suc j) (omega (arith, l)) (λ e. d (omega (arith, e)))))
      ∙ L.mul_one 𝟙

  -- what has an inverse isn't zero
  nonzero-by-inverse : (a b : A) → a ⊗ b ≡ 𝟙 → a ≢ 𝟘
  nonzero-by-inverse a b e z =
      L.one_not_zero (sym e ∙ ap (λ x. x ⊗ b) z ∙ zero_mul F L.ring b)

  -- of `n` chunks that are apart
  module _ (n k : ℕ) (s : ℕ → A) (apart : ChunksApart F n k s) where
    abbrev others : ℕ → A
    others i = product_but F n i (λ j. vanishing F (s j) k (s i))

    abbrev inverses : ℕ → A
    inverses i = product_but F n i (λ j. inv (vanishing F (s j) k (s i)))

    others-inverses : (i : ℕ) → i < n → others i ⊗ inverses i ≡ 𝟙
    others-inverses i l =
        but-inverse n i (λ j. vanishing F (s j) k (s i)) (λ j m d. apart i j l m d)

    inverses-weight : (i : ℕ) → i < n → inverses i ≡ chunk_weight F n k s i
    unfolding chunk_weight
    inverses-weight i l =
        inverse_unique F L (others i) (inverses i)
        (nonzero-by-inverse (others i) (inverses i) (others-inverses i l)) (others-inverses i l)

    pub others-nonzero : (i : ℕ) → i < n
        → product_but F n i (λ j. vanishing F (s j) k (s i)) ≢ 𝟘
    others-nonzero i l = nonzero-by-inverse (others i) (inverses i) (others-inverses i l)

    pub weight-nonzero : (i : ℕ) → i < n → chunk_weight F n k s i ≢ 𝟘
    weight-nonzero i l =
        nonzero-by-inverse (chunk_weight F n k s i) (others i)
        (ap (λ x. x ⊗ others i) (sym (inverses-weight i l))
        ∙ L.mul_comm (inverses i) (others i) ∙ others-inverses i l)

    -- the product over the other chunks of their vanishing polynomials' values
    abbrev vanishing_but : A → ℕ → A
    vanishing_but z i = product_but F n i (λ j. vanishing F (s j) k z)

    -- by weights, which one inversion gives
    pub recombined-weights : (v : ℕ → A) (z : A) → recombined F n k s v z
        ≡ sum_below F n (λ i. v i ⊗ (product_but F n i (λ j. vanishing F (s j) k z)
        ⊗ chunk_weight F n k s i))
    unfolding recombined
    recombined-weights v z =
        sum-same n (λ i. v i ⊗ chunk_factor F n k s i z)
        (λ i. v i ⊗ (vanishing_but z i ⊗ chunk_weight F n k s i))
        (λ i l. ap (λ x. v i ⊗ x)
        (but-mul n i (λ j. vanishing F (s j) k z) (λ j. inv (vanishing F (s j) k (s i)))
        ∙ ap (λ x. vanishing_but z i ⊗ x) (inverses-weight i l)))

    -- masks whose weighted sum is zero at `z` change nothing there
    pub masks_cancel : (v v' t : ℕ → A) (z : A)
        → ((i : ℕ) → i < n → v' i ≡ v i ⊕ vanishing F (s i) k z ⊗ t i)
        → sum_below F n (λ i. chunk_weight F n k s i ⊗ t i) ≡ 𝟘
        → recombined F n k s v' z ≡ recombined F n k s v z
    masks_cancel v v' t z e c =
        recombined-weights v' z
        ∙ sum-same n (λ i. v' i ⊗ (vanishing_but z i ⊗ c_ i))
        (λ i. v i ⊗ (vanishing_but z i ⊗ c_ i) ⊕ whole ⊗ (c_ i ⊗ t i)) each
        ∙ sum_below-add F L.ring n (λ i. v i ⊗ (vanishing_but z i ⊗ c_ i))
        (λ i. whole ⊗ (c_ i ⊗ t i))
        ∙ ap (λ x. unmasked ⊕ x)
        (sum_below-factor F L.ring whole n (λ i. c_ i ⊗ t i) ∙ ap (λ x. whole ⊗ x) c)
        ∙ ring F L.ring 2 (λ a w. a :+ w :* o := a) refl unmasked whole
        ∙ sym (recombined-weights v z)
      where
        c_ : ℕ → A
        c_ i = chunk_weight F n k s i

        whole : A
        whole = product_below F n (λ j. vanishing F (s j) k z)

        unmasked : A
        unmasked = sum_below F n (λ i. v i ⊗ (vanishing_but z i ⊗ c_ i))

        each : (i : ℕ) → i < n → v' i ⊗ (vanishing_but z i ⊗ c_ i)
            ≡ v i ⊗ (vanishing_but z i ⊗ c_ i) ⊕ whole ⊗ (c_ i ⊗ t i)
        each i l =
            ap (λ x. x ⊗ (vanishing_but z i ⊗ c_ i)) (e i l)
            ∙ ring F L.ring 5
            (λ q v t b w. (q :+ v :* t) :* (b :* w) := q :* (b :* w) :+ v :* b :* (w :* t)) refl
            (v i) (vanishing F (s i) k z) (t i) (vanishing_but z i) (c_ i)
            ∙ ap (λ x. v i ⊗ (vanishing_but z i ⊗ c_ i) ⊕ x ⊗ (c_ i ⊗ t i))
            (but-whole n i (λ j. vanishing F (s j) k z) l)

  -- the last mask makes the weighted sum zero
  pub last_cancels : (m k : ℕ) (s : ℕ → A) (t : ℕ → A) → ChunksApart F (suc m) k s
      → t m ≡ neg (sum_below F m (λ i. chunk_weight F (suc m) k s i
      ⊗ inv (chunk_weight F (suc m) k s m) ⊗ t i))
      → sum_below F (suc m) (λ i. chunk_weight F (suc m) k s i ⊗ t i) ≡ 𝟘
  last_cancels m k s t apart e =
      sum-last m (λ i. c_ i ⊗ t i)
      ∙ ap (λ x. before ⊕ c_ m ⊗ x) (e ∙ ap neg (sum-same m (λ i. c_ i ⊗ inv (c_ m) ⊗ t i)
      (λ i. inv (c_ m) ⊗ (c_ i ⊗ t i))
      (λ i l. ring F L.ring 3 (λ a b c. a :* b :* c := b :* (a :* c)) refl (c_ i) (inv (c_ m)) (t i))
      ∙ sum_below-factor F L.ring (inv (c_ m)) m (λ i. c_ i ⊗ t i)))
      ∙ combine F L.ring {k = neg before}
      (L.mul_inv (c_ m) (weight-nonzero (suc m) k s apart m (omega arith)))
      (ring F L.ring 3
      (λ c i x. x :+ c :* minus (i :* x) :+ minus x :* :1 := o :+ minus x :* (c :* i)) refl
      (c_ m) (inv (c_ m)) before)
    where
      c_ : ℕ → A
      c_ i = chunk_weight F (suc m) k s i

      before : A
      before = sum_below F m (λ i. c_ i ⊗ t i)

  -- twice as many coefficients, whose value is `q + Z t`
  pub val-masked_chunk : (s : A) (k : ℕ) (q t : List A) (z : A) → length q ≡ 2 ^ k
      → length t ≡ 2 ^ k
      → val F (masked_chunk F s k q t) z ≡ val F q z ⊕ vanishing F s k z ⊗ val F t z
  val-masked_chunk s k q t z a b =
      let same : length q ≡ length (map (λ a. neg 𝟙 ⊗ a) t) =
      a ∙ sym (length-map t (λ a. neg 𝟙 ⊗ a) ∙ b) in
      val-append F L.ring (add_lists F q (map (λ a. neg 𝟙 ⊗ a) t))
      (map (λ a. pow F (inv s) (2 ^ k) ⊗ a) t) z
      ∙ ap₂ (λ x n. x ⊕ pow F z n ⊗ val F (map (λ a. pow F (inv s) (2 ^ k) ⊗ a) t) z)
      (val-add F L.ring q (map (λ a. neg 𝟙 ⊗ a) t) z same
      ∙ ap (λ v. val F q z ⊕ v) (val-scale F L.ring (neg 𝟙) t z))
      (length-add_lists F q (map (λ a. neg 𝟙 ⊗ a) t) same ∙ a)
      ∙ ap (λ x. val F q z ⊕ neg 𝟙 ⊗ val F t z ⊕ pow F z (2 ^ k) ⊗ x)
      (val-scale F L.ring (pow F (inv s) (2 ^ k)) t z)
      ∙ ring F L.ring 4
      (λ q t p i. q :+ minus :1 :* t :+ p :* (i :* t) := q :+ (p :* i :- :1) :* t) refl
      (val F q z) (val F t z) (pow F z (2 ^ k)) (pow F (inv s) (2 ^ k))
      ∙ ap (λ x. val F q z ⊕ sub F x 𝟙 ⊗ val F t z) (pow-times F L.ring z (inv s) (2 ^ k))

  length-combined : (h m : ℕ) (c : ℕ → A) (t : ℕ → List A)
      → ((i : ℕ) → i < m → length (t i) ≡ h) → length (combined F m c t (replicate h 𝟘)) ≡ h
  length-combined h zero c t l = length-replicate h 𝟘
  length-combined h (suc m) c t l =
      let rest = length-combined h m (λ i. c (suc i)) (λ i. t (suc i))
      (λ i b. l (suc i) (omega (arith, b))) in
      let first = length-map (t zero) (λ a. c zero ⊗ a) ∙ l zero (omega arith) in
      length-add_lists F (map (λ a. c zero ⊗ a) (t zero))
      (combined F m (λ i. c (suc i)) (λ i. t (suc i)) (replicate h 𝟘)) (first ∙ sym rest)
      ∙ first

  val-combined : (h m : ℕ) (c : ℕ → A) (t : ℕ → List A) (z : A)
      → ((i : ℕ) → i < m → length (t i) ≡ h)
      → val F (combined F m c t (replicate h 𝟘)) z ≡ sum_below F m (λ i. c i ⊗ val F (t i) z)
  unfolding sum_below
  val-combined h zero c t z l = val-padded F L.ring [] h z ∙ val-nil F L.ring z
  val-combined h (suc m) c t z l =
      let rest = length-combined h m (λ i. c (suc i)) (λ i. t (suc i))
      (λ i b. l (suc i) (omega (arith, b))) in
      let first = length-map (t zero) (λ a. c zero ⊗ a) ∙ l zero (omega arith) in
      val-add F L.ring (map (λ a. c zero ⊗ a) (t zero))
      (combined F m (λ i. c (suc i)) (λ i. t (suc i)) (replicate h 𝟘)) z (first ∙ sym rest)
      ∙ ap₂ (λ x y. x ⊕ y) (val-scale F L.ring (c zero) (t zero) z)
      (val-combined h m (λ i. c (suc i)) (λ i. t (suc i)) z
      (λ i b. l (suc i) (omega (arith, b))))

  -- the value of the last mask
  pub val-last_mask : (m k : ℕ) (s : ℕ → A) (t : ℕ → List A) (z : A)
      → ((i : ℕ) → i < suc m → length (t i) ≡ 2 ^ k) → t m ≡ last_mask F m k s t
      → val F (t m) z ≡ neg (sum_below F m (λ i. chunk_weight F (suc m) k s i
      ⊗ inv (chunk_weight F (suc m) k s m) ⊗ val F (t i) z))
  val-last_mask m k s t z l e =
      ap (λ c. val F c z) e
      ∙ val-scale F L.ring (neg 𝟙) (combined F m factor t (replicate (2 ^ k) 𝟘)) z
      ∙ ap (λ v. neg 𝟙 ⊗ v)
      (val-combined (2 ^ k) m factor t z (λ i b. l i (omega (arith, b))))
      ∙ ring F L.ring 1 (λ v. minus :1 :* v := minus v) refl
      (sum_below F m (λ i. factor i ⊗ val F (t i) z))
    where
      factor : ℕ → A
      factor i = chunk_weight F (suc m) k s i ⊗ inv (chunk_weight F (suc m) k s m)
