-- The value at a point off a coset is the barycentric sum of the values over the coset.
use Rattle.std.proofs.Common.{◌≡◌, ◌≢◌, ℕ, zero, suc, ◌+◌, ◌-◌, ◌^◌, ◌<◌, ◌≤◌, pred, List, [], ◌∷◌}
use Rattle.std.proofs.Common.{◌++◌, length, map, get_or, replicate, refl, sym, ap, ap₂, ◌∙◌, arith}
use Rattle.std.proofs.Common.{length-append}
use Rattle.std.proofs.lemmas.List.{length-replicate, length-map}
use Rattle.std.proofs.lemmas.Nat.{pow_pos}
use Rattle.std.proofs.Math.Nat.{pow-le-pow_right}
use Rattle.algebra.specs.Field.{FieldOps, IsField, IsHomomorphism, sub, multiple, pow}
use Rattle.algebra.specs.Polynomial.{val, sum_below, quotient}
use Rattle.algebra.specs.TwoAdic.{AreRoots, pt}
use Rattle.algebra.specs.Cosets.{coset_pt, IsOffCoset, vanishing}
use Rattle.algebra.specs.Words.{coset_word}
use Rattle.algebra.specs.Barycentric.{barycentric, barycentric_weight, barycentric_factor}
use Rattle.algebra.proofs.Ring.{◌:+◌, ◌:*◌, ◌:-◌, ◌:=◌, ring, minus, :1, o}
use Rattle.algebra.proofs.RingLaws.{one_mul, multiple-suc, multiple-zero, multiple-one}
use Rattle.algebra.proofs.RingLaws.{multiple-add}
use Rattle.algebra.proofs.Combine.{combine, combine2, cancel_zero, cancel_factor, sub-eq}
use Rattle.algebra.proofs.Powers.{double, pow-zero, pow-suc_is, pow-nonzero}
use Rattle.algebra.proofs.Values.{evens, odds, stretched, val-nil, val-cons, val-one, val-halves}
use Rattle.algebra.proofs.Values.{val-stretched, val-padded, val-shift}
use Rattle.algebra.proofs.Division.{divide, length-quotient}
use Rattle.algebra.proofs.PolynomialProduct.{sum_below-equal}
use Rattle.algebra.proofs.Sums.{sum_below-factor, sum_below-add}
use Rattle.algebra.proofs.Points.{point-square, point-opposite, lifted_roots}
use Rattle.algebra.proofs.PointTest.{coset_power, power_of_quotient}
use Rattle.algebra.proofs.CosetWords.{length-stretched}
use Rattle.algebra.proofs.Lifting.{homomorphism-nonzero, lifted_coset_pt, lifted_value}
use Rattle.algebra.proofs.Lifting.{lifted_off_coset}
use Rattle.algebra.proofs.Words.{point-restrict}
use Rattle.algebra.proofs.Lists.{get_or-tabulate}

length-evens : {A : Type 0} (n : ℕ) (c : List A) → length c ≡ n + n → length (evens c) ≡ n
length-evens zero [] e = refl
length-evens zero (c ∷ cs) e = absurd (omega (arith, e))
length-evens (suc n) [] e = absurd (omega (arith, e))
length-evens (suc n) (c ∷ []) e = absurd (omega (arith, e))
length-evens (suc n) (c ∷ d ∷ cs) e = ap suc (length-evens n cs (omega (arith, e)))

first-evens : {A : Type 0} (c : List A) (d : A) → get_or (evens c) 0 d ≡ get_or c 0 d
first-evens [] d = refl
first-evens (c ∷ []) d = refl
first-evens (c ∷ e ∷ cs) d = refl

-- `z^(n - 1) + z^(n - 2) X + .. + X^(n - 1)`
abbrev geometric : {A : Type 0} → FieldOps A → ℕ → A → List A
geometric F zero z = []
geometric F (suc n) z = pow F z n ∷ geometric F n z

length-geometric : {A : Type 0} (F : FieldOps A) (n : ℕ) (z : A) → length (geometric F n z) ≡ n
length-geometric F zero z = refl
length-geometric F (suc n) z = ap suc (length-geometric F n z)

module _ {A : Type 0} (F : FieldOps A) (L : IsField F) where
  infixl 65 ◌⊕◌
  infixl 65 ◌⊖◌
  infixl 70 ◌⊗◌
  open F use {zero as 𝟘, one as 𝟙, add as ◌⊕◌, mul as ◌⊗◌, neg, inv}

  abbrev ◌⊖◌ : A → A → A
  a ⊖ b = sub F a b

  -- a power of two, counted in the field, isn't zero
  pub two_power_nonzero : (k : ℕ) → multiple F (2 ^ k) ≢ 𝟘
  two_power_nonzero zero e = L.one_not_zero (sym (multiple-one F L.ring) ∙ e)
  two_power_nonzero (suc k) e =
      two_power_nonzero k (cancel_zero F L (𝟙 ⊕ 𝟙) (multiple F (2 ^ k)) L.two_not_zero
      (ring F L.ring 1 (λ n. (:1 :+ :1) :* n := n :+ n) refl (multiple F (2 ^ k))
      ∙ sym (multiple-add F L.ring (2 ^ k) (2 ^ k))
      ∙ ap (λ n. multiple F n) (sym (double k))
      ∙ e))

  -- the values at `s` and `-s`, together
  both_signs : (c : List A) (s : A)
      → val F c s ⊕ val F c (neg s) ≡ (𝟙 ⊕ 𝟙) ⊗ val F (evens c) (s ⊗ s)
  both_signs c s =
      ap₂ (λ u v. u ⊕ v) (val-halves F L.ring c s) (val-halves F L.ring c (neg s)
      ∙ ap (λ t. val F (evens c) t ⊕ neg s ⊗ val F (odds c) t)
      (ring F L.ring 1 (λ s. minus s :* minus s := s :* s) refl s))
      ∙ ring F L.ring 3 (λ s u v. u :+ s :* v :+ (u :+ minus s :* v) := (:1 :+ :1) :* u) refl
      s (val F (evens c) (s ⊗ s)) (val F (odds c) (s ⊗ s))

  -- a sum in pairs of neighbours
  sum_below-pairs : (n : ℕ) (f : ℕ → A)
      → sum_below F (n + n) f ≡ sum_below F n (λ m. f (m + m) ⊕ f (suc (m + m)))
  unfolding sum_below
  sum_below-pairs zero f = refl
  sum_below-pairs (suc n) f =
      ap (λ k. sum_below F k f) (let e : suc n + suc n ≡ suc (suc (n + n)) = omega arith in e)
      ∙ ap (λ s. f zero ⊕ (f 1 ⊕ s))
      (sum_below-pairs n (λ m. f (suc (suc m)))
      ∙ sum_below-equal F n (λ m. f (suc (suc (m + m))) ⊕ f (suc (suc (suc (m + m)))))
      (λ m. f (suc m + suc m) ⊕ f (suc (suc m + suc m)))
      (λ m _. ap (λ k. f k ⊕ f (suc k))
      (let e : suc (suc (m + m)) ≡ suc m + suc m = omega arith in e)))
      ∙ sym (L.add_assoc (f zero) (f 1)
      (sum_below F n (λ m. f (suc m + suc m) ⊕ f (suc (suc m + suc m)))))

  sum_below-constant : (n : ℕ) (c : A) → sum_below F n (λ i. c) ≡ multiple F n ⊗ c
  unfolding sum_below
  sum_below-constant zero c =
      rw (multiple-zero F L.ring) (ring F L.ring 1 (λ c. o := o :* c) refl c)
  sum_below-constant (suc n) c =
      ap (λ s. c ⊕ s) (sum_below-constant n c)
      ∙ ring F L.ring 2 (λ n c. c :+ n :* c := (n :+ :1) :* c) refl (multiple F n) c
      ∙ ap (λ m. m ⊗ c) (sym (multiple-suc F L.ring n))

  -- `x` times the geometric polynomial, which at `x`, times `z - x`, is `z^n - x^n`
  val-geometric : (n : ℕ) (z x : A)
      → x ⊗ val F (geometric F n z) x ≡ z ⊗ val F (geometric F n z) x ⊕ (pow F x n ⊖ pow F z n)
  val-geometric zero z x =
      rw (val-nil F L.ring x, pow-zero F x, pow-zero F z)
      (ring F L.ring 2 (λ z x. x :* o := z :* o :+ (:1 :- :1)) refl z x)
  val-geometric (suc n) z x =
      rw (val-cons F L.ring (pow F z n) (geometric F n z) x, pow-suc_is F x n, pow-suc_is F z n)
      (combine F L.ring {k = x} (val-geometric n z x)
      (ring F L.ring 5
      (λ x z u v g. x :* (u :+ x :* g) :+ x :* (z :* g :+ (v :- u))
      := z :* (u :+ x :* g) :+ (x :* v :- z :* u) :+ x :* (x :* g)) refl
      x z (pow F z n) (pow F x n) (val F (geometric F n z) x)))

  first-geometric : (shift z : A) (n : ℕ) → 0 < n
      → z ⊗ get_or (stretched F 𝟙 shift (geometric F n z)) 0 𝟘 ≡ pow F z n
  first-geometric shift z zero p = absurd (omega (arith, p))
  first-geometric shift z (suc n) p =
      ap (λ t. z ⊗ t) (one_mul F L.ring (pow F z n)) ∙ sym (pow-suc_is F z n)

  module _ (top : ℕ) (w : ℕ → A) (W : AreRoots F top w) where
    -- the values over a domain of a polynomial of as many coefficients, together
    pub sum_of_values : (k : ℕ) (c : List A) → k ≤ top → length c ≡ 2 ^ k
        → sum_below F (2 ^ k) (λ i. val F c (pt F w i k)) ≡ multiple F (2 ^ k) ⊗ get_or c 0 𝟘
    unfolding sum_below
    sum_of_values zero [] b e = absurd (omega (arith, e))
    sum_of_values zero (c ∷ []) b e =
        ap (λ v. v ⊕ 𝟘) (val-one F L.ring c (pt F w 0 0))
        ∙ ring F L.ring 1 (λ c. c :+ o := :1 :* c) refl c
        ∙ ap (λ m. m ⊗ c) (sym (multiple-one F L.ring))
    sum_of_values zero (c ∷ d ∷ cs) b e = absurd (omega (arith, e))
    sum_of_values (suc k) c b e =
        ap (λ n. sum_below F n (λ i. val F c (pt F w i (suc k)))) (double k)
        ∙ sum_below-pairs (2 ^ k) (λ i. val F c (pt F w i (suc k)))
        ∙ sum_below-equal F (2 ^ k)
        (λ m. val F c (pt F w (m + m) (suc k)) ⊕ val F c (pt F w (suc (m + m)) (suc k)))
        (λ m. (𝟙 ⊕ 𝟙) ⊗ val F (evens c) (pt F w m k))
        (λ m _. ap (λ x. val F c (pt F w (m + m) (suc k)) ⊕ val F c x)
        (point-opposite F L top w W m k b)
        ∙ both_signs c (pt F w (m + m) (suc k))
        ∙ ap (λ x. (𝟙 ⊕ 𝟙) ⊗ val F (evens c) x) (point-square F L top w W m k b))
        ∙ sum_below-factor F L.ring (𝟙 ⊕ 𝟙) (2 ^ k) (λ m. val F (evens c) (pt F w m k))
        ∙ ap (λ v. (𝟙 ⊕ 𝟙) ⊗ v)
        (sum_of_values k (evens c) (omega (arith, b)) (length-evens (2 ^ k) c (e ∙ double k))
        ∙ ap (λ a. multiple F (2 ^ k) ⊗ a) (first-evens c 𝟘))
        ∙ ring F L.ring 2 (λ n a. (:1 :+ :1) :* (n :* a) := (n :+ n) :* a) refl (multiple F (2 ^ k))
        (get_or c 0 𝟘)
        ∙ ap (λ n. n ⊗ get_or c 0 𝟘)
        (sym (multiple-add F L.ring (2 ^ k) (2 ^ k)) ∙ ap (λ n. multiple F n) (sym (double k)))

    module _ (shift z : A) (k : ℕ) (b : k ≤ top) where
      x : ℕ → A
      x i = coset_pt F w shift i k

      weight : ℕ → A
      weight i = x i ⊗ inv (z ⊖ x i)

      power : (i : ℕ) → pow F (x i) (2 ^ k) ≡ pow F shift (2 ^ k)
      unfolding x
      power i = coset_power F L top w W shift i k b

      -- over the coset, the constant coefficient alone is left too
      sum_of_coset_values : (c : List A) → length c ≡ 2 ^ k
          → sum_below F (2 ^ k) (λ i. val F c (x i))
          ≡ multiple F (2 ^ k) ⊗ get_or (stretched F 𝟙 shift c) 0 𝟘
      unfolding x
      sum_of_coset_values c e =
          sum_below-equal F (2 ^ k) (λ i. val F c (x i))
          (λ i. val F (stretched F 𝟙 shift c) (pt F w i k))
          (λ i _. sym (val-stretched F L.ring 𝟙 shift c (pt F w i k)
          ∙ one_mul F L.ring (val F c (coset_pt F w shift i k))))
          ∙ sum_of_values k (stretched F 𝟙 shift c) b (length-stretched F 𝟙 shift c ∙ e)

      -- `x q(x)` has the sum zero, where `q` has a coefficient less
      sum_of_shifted : (q : List A) → suc (length q) ≡ 2 ^ k
          → sum_below F (2 ^ k) (λ i. x i ⊗ val F q (x i)) ≡ 𝟘
      sum_of_shifted q e =
          sum_below-equal F (2 ^ k) (λ i. x i ⊗ val F q (x i)) (λ i. val F (𝟘 ∷ q) (x i))
          (λ i _. sym (val-shift F L.ring q (x i)))
          ∙ sum_of_coset_values (𝟘 ∷ q) e
          ∙ ring F L.ring 1 (λ n. n :* (:1 :* o) := o) refl (multiple F (2 ^ k))

      module _ (off : IsOffCoset F (λ x. x) w shift k z) where
        unit : (i : ℕ) → i < 2 ^ k → (z ⊖ x i) ⊗ inv (z ⊖ x i) ≡ 𝟙
        unfolding x
        unit i l = L.mul_inv (z ⊖ x i) (λ e. off i l (sym (sub-eq F L.ring e)))

        -- the weighted values make up the value at `z` times the weights, together
        weighted_values : (c : List A) → length c ≡ 2 ^ k
            → sum_below F (2 ^ k) (λ i. weight i ⊗ val F c (x i))
            ≡ val F c z ⊗ sum_below F (2 ^ k) weight
        unfolding weight
        weighted_values c e =
            sym (
            sym (sum_below-factor F L.ring (val F c z) (2 ^ k) weight)
            ∙ sum_below-equal F (2 ^ k) (λ i. val F c z ⊗ weight i)
            (λ i. weight i ⊗ val F c (x i) ⊕ x i ⊗ val F (quotient F c z) (x i)) each
            ∙ sum_below-add F L.ring (2 ^ k) (λ i. weight i ⊗ val F c (x i))
            (λ i. x i ⊗ val F (quotient F c z) (x i))
            ∙ ap (λ v. sum_below F (2 ^ k) (λ i. weight i ⊗ val F c (x i)) ⊕ v)
            (sum_of_shifted (quotient F c z) count)
            ∙ L.add_zero (sum_below F (2 ^ k) (λ i. weight i ⊗ val F c (x i)))
            )
          where
            count : suc (length (quotient F c z)) ≡ 2 ^ k
            count = ap suc (length-quotient F c z ∙ ap pred e) ∙ up (2 ^ k) (pow_pos k)
              where
                up : (n : ℕ) → 0 < n → suc (pred n) ≡ n
                up zero p = absurd (omega (arith, p))
                up (suc n) p = refl

            each : (i : ℕ) → i < 2 ^ k
                → val F c z ⊗ weight i
                ≡ weight i ⊗ val F c (x i) ⊕ x i ⊗ val F (quotient F c z) (x i)
            each i l =
                combine2 F L.ring {k = neg (weight i)}
                {k' = neg (x i ⊗ val F (quotient F c z) (x i))}
                (divide F L.ring c z (x i)) (sym (unit i l))
                (ring F L.ring 6
                (λ x z u v q n. v :* (x :* n)
                :+ (minus (x :* n) :* (v :+ (x :- z) :* q) :+ minus (x :* q) :* ((z :- x) :* n))
                := x :* n :* u :+ x :* q :+ (minus (x :* n) :* u :+ minus (x :* q) :* :1)) refl
                (x i) z (val F c (x i)) (val F c z) (val F (quotient F c z) (x i)) (inv (z ⊖ x i)))

        -- the weights, together: no power of `z` is divided by, so they are right at zero too
        weights_together : (pow F z (2 ^ k) ⊖ pow F shift (2 ^ k)) ⊗ sum_below F (2 ^ k) weight
            ≡ multiple F (2 ^ k) ⊗ pow F shift (2 ^ k)
        unfolding weight
        weights_together =
            let n = 2 ^ k in
            let g = geometric F n z in
            let first = get_or (stretched F 𝟙 shift g) 0 𝟘 in
            sym (sum_below-factor F L.ring (pow F z n ⊖ pow F shift n) n weight)
            ∙ sum_below-equal F n (λ i. (pow F z n ⊖ pow F shift n) ⊗ weight i)
            (λ i. z ⊗ val F g (x i) ⊕ (pow F shift n ⊖ pow F z n)) each
            ∙ sum_below-add F L.ring n (λ i. z ⊗ val F g (x i)) (λ i. pow F shift n ⊖ pow F z n)
            ∙ ap₂ (λ u v. u ⊕ v)
            (sum_below-factor F L.ring z n (λ i. val F g (x i))
            ∙ ap (λ v. z ⊗ v) (sum_of_coset_values g (length-geometric F n z)))
            (sum_below-constant n (pow F shift n ⊖ pow F z n))
            ∙ combine F L.ring {k = multiple F n} (first-geometric shift z n (pow_pos k))
            (ring F L.ring 5 (λ z n f u v. z :* (n :* f) :+ n :* (u :- v) :+ n :* v
            := n :* u :+ n :* (z :* f)) refl
            z (multiple F n) first (pow F shift n) (pow F z n))
          where
            each : (i : ℕ) → i < 2 ^ k
                → (pow F z (2 ^ k) ⊖ pow F shift (2 ^ k)) ⊗ (x i ⊗ inv (z ⊖ x i))
                ≡ z ⊗ val F (geometric F (2 ^ k) z) (x i) ⊕ (pow F shift (2 ^ k) ⊖ pow F z (2 ^ k))
            each i l =
                let g = val F (geometric F (2 ^ k) z) (x i) in
                let turned : x i ⊗ g ≡ z ⊗ g ⊕ (pow F shift (2 ^ k) ⊖ pow F z (2 ^ k)) =
                val-geometric (2 ^ k) z (x i)
                ∙ ap (λ v. z ⊗ g ⊕ (v ⊖ pow F z (2 ^ k))) (power i) in
                combine2 F L.ring {k = x i ⊗ inv (z ⊖ x i)} {k' = x i ⊗ g} turned (unit i l)
                (ring F L.ring 6
                (λ x z n v u g. (v :- u) :* (x :* n)
                :+ (x :* n :* (z :* g :+ (u :- v)) :+ x :* g :* :1)
                := x :* g :+ (x :* n :* (x :* g) :+ x :* g :* ((z :- x) :* n))) refl
                (x i) z (inv (z ⊖ x i)) (pow F z (2 ^ k)) (pow F shift (2 ^ k)) g)
                ∙ turned

        -- so the factor makes the weighted values the value at `z`
        pub value_from_weights : shift ≢ 𝟘 → (c : List A) → length c ≡ 2 ^ k
            → vanishing F shift k z ⊗ inv (multiple F (2 ^ k))
            ⊗ sum_below F (2 ^ k) (λ i.
            coset_pt F w shift i k ⊗ inv (z ⊖ coset_pt F w shift i k)
            ⊗ val F c (coset_pt F w shift i k))
            ≡ val F c z
        unfolding x weight
        value_from_weights nonzero c e =
            let p = pow F shift (2 ^ k) in
            let q = pow F (z ⊗ inv shift) (2 ^ k) in
            let n = multiple F (2 ^ k) in
            let values = sum_below F (2 ^ k) (λ i. weight i ⊗ val F c (x i)) in
            let weights = sum_below F (2 ^ k) weight in
            cancel_factor F L p (vanishing F shift k z ⊗ inv n ⊗ values) (val F c z)
            (pow-nonzero F L shift (2 ^ k) nonzero)
            (ring F L.ring 4 (λ p q i s. p :* ((q :- :1) :* i :* s)
            := (q :* p :- p) :* (i :* s)) refl p q (inv n) values
            ∙ ap₂ (λ d s. (d ⊖ p) ⊗ (inv n ⊗ s)) (power_of_quotient F L z shift (2 ^ k) nonzero)
            (weighted_values c e)
            ∙ ring F L.ring 4 (λ d i f t. d :* (i :* (f :* t)) := d :* t :* (i :* f)) refl
            (pow F z (2 ^ k) ⊖ p) (inv n) (val F c z) weights
            ∙ ap (λ t. t ⊗ (inv n ⊗ val F c z)) weights_together
            ∙ ring F L.ring 4 (λ n p i f. n :* p :* (i :* f) := n :* i :* (p :* f)) refl n p (inv n)
            (val F c z)
            ∙ ap (λ t. t ⊗ (p ⊗ val F c z)) (L.mul_inv n (two_power_nonzero k))
            ∙ one_mul F L.ring (p ⊗ val F c z))

module _ {A E : Type 0} (F : FieldOps A) (K : FieldOps E) (lift : A → E) (L : IsField F)
    (M : IsField K)
    (H : IsHomomorphism F K lift) (top : ℕ) (w : ℕ → A) (W : AreRoots F top w) where
  -- from the values of a polynomial of the base field: the first of a longer word are enough
  pub barycentric_value : (shift : A) → shift ≢ F.zero → (k m : ℕ) → k + m ≤ top → (c : List A)
      → length c ≤ 2 ^ k
      → (z : E) → IsOffCoset F lift w shift k z
      → barycentric F K lift w shift k (coset_word F w shift (k + m) c) z ≡ val K (map lift c) z
  barycentric_value shift nonzero k m b c n z off =
      ap (λ s. K.mul (barycentric_factor F K lift w shift k z) s)
      (sum_below-equal K (2 ^ k)
      (λ i. K.mul (barycentric_weight F K lift w shift k z i)
      (lift (get_or (coset_word F w shift (k + m) c) i F.zero)))
      (λ i. K.mul (K.mul (x i) (K.inv (sub K z (x i)))) (val K padded (x i)))
      (λ i l. ap₂ (λ t v. K.mul (K.mul t (K.inv (sub K z t))) v)
      (lifted_coset_pt F K lift H w shift i k)
      (ap lift (entry i l)
      ∙ lifted_value F K lift L.ring M.ring H w c shift i k
      ∙ sym (val-padded K M.ring (map lift c) (2 ^ k - length c) (x i)))))
      ∙ value_from_weights K M top (λ j. lift (w j)) (lifted_roots F K lift L M H top w W)
      (lift shift) z k (omega (arith, b))
      (lifted_off_coset F K lift H w shift k z off)
      (homomorphism-nonzero F K lift L M H shift nonzero) padded
      (length-append (map lift c) (replicate (2 ^ k - length c) K.zero)
      ∙ ap₂ (λ i j. i + j) (length-map c lift) (length-replicate (2 ^ k - length c) K.zero)
      ∙ omega (arith, n))
      ∙ val-padded K M.ring (map lift c) (2 ^ k - length c) z
    where
      x : ℕ → E
      x i = coset_pt K (λ j. lift (w j)) (lift shift) i k

      padded : List E
      padded = map lift c ++ replicate (2 ^ k - length c) K.zero

      entry : (i : ℕ) → i < 2 ^ k
          → get_or (coset_word F w shift (k + m) c) i F.zero ≡ val F c (coset_pt F w shift i k)
      entry i l =
          get_or-tabulate (2 ^ (k + m)) (λ j. val F c (coset_pt F w shift j (k + m))) i F.zero
          (below i l)
          ∙ ap (λ y. val F c (F.mul shift y)) (point-restrict F L top w W i k m l b)
        where
          below : (i : ℕ) → i < 2 ^ k → i < 2 ^ (k + m)
          below i l =
              let more : 2 ^ k ≤ 2 ^ (k + m) =
              pow-le-pow_right {n = 2} (omega arith) {i = k} {j = k + m} (omega arith) in
              omega (arith, l, more)
