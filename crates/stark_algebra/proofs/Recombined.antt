-- Chunks of a polynomial on disjoint cosets recombine to it.
use Rattle.std.proofs.Common.{◌≡◌, ◌≢◌, ◌⊎◌, inl, inr, ℕ, zero, suc, ◌+◌, ◌*◌, ◌/◌, ◌%◌, ◌^◌, ◌<◌, ◌≤◌}
use Rattle.std.proofs.Common.{refl, sym, ap, ap₂, ◌∙◌, arith, mul_comm, pow_pos, mod-lt}
use Rattle.std.proofs.Math.Nat.{div-add-mod, mul-le-mul_left}
use Rattle.algebra.specs.Field.{FieldOps, IsRing, IsField, sub, pow}
use Rattle.algebra.specs.Polynomial.{tabulate, sum_below}
use Rattle.algebra.specs.TwoAdic.{AreRoots}
use Rattle.algebra.specs.Cosets.{vanishing}
use Rattle.algebra.specs.RecombinedQuotients.{product_below, product_but, ChunksApart, chunk_factor, recombined}
use Rattle.algebra.proofs.Ring.{◌:*◌, ◌:=◌, ring}
use Rattle.algebra.proofs.RingLaws.{zero_mul, mul_zero}
use Rattle.algebra.proofs.Combine.{cancel_factor, cancel_zero}
use Rattle.algebra.proofs.Powers.{pow-times, pow-add, pow-mul, pow-nonzero}
use Rattle.algebra.proofs.Points.{powers_differ, root-power, root-nonzero}
use Rattle.algebra.proofs.PointTest.{vanishing_where_powers_agree, powers_agree_where_vanishing}
use Rattle.stark_algebra.specs.Laws.{IsSplit}
use Rattle.algebra.proofs.Sums.{sum_below-single}
use Rattle.algebra.proofs.Lists.{Distinct, distinct-tabulate, length-tabulate}
use Rattle.stark_algebra.specs.Degrees.{HasDegreeBelow}
use Rattle.stark_algebra.proofs.Degrees.{degree-same, degree-more, degree-constant, degree-zero, degree-add, degree-scale}
use Rattle.stark_algebra.proofs.Degrees.{degree-sub, degree-mul, degree-stretched, degree-power, degree-equal}
use Rattle.stark_algebra.proofs.Vanishing.{points-turn, each-tabulate}

module _ {A : Type 0} (F : FieldOps A) (R : IsRing F) where
  open F use {zero as 𝟘, one as 𝟙, mul as ◌⊗◌, inv}

  infixl 70 ◌⊗◌
  below-ones : (n : ℕ) (f : ℕ → A) → ((j : ℕ) → j < n → f j ≡ 𝟙) → product_below F n f ≡ 𝟙
  below-ones zero f h = refl
  below-ones (suc n) f h = ap₂ F.mul (h zero (omega arith)) (below-ones n (λ j. f (suc j)) (λ j l. h (suc j) (omega (arith, l)))) ∙ R.mul_one 𝟙

  but-ones : (n i : ℕ) (f : ℕ → A) → ((j : ℕ) → j < n → j ≢ i → f j ≡ 𝟙) → product_but F n i f ≡ 𝟙
  but-ones zero i f h = refl
  but-ones (suc n) zero f h = below-ones n (λ j. f (suc j)) (λ j l. h (suc j) (omega (arith, l)) (λ e. omega (arith, e)))
  but-ones (suc n) (suc i) f h = ap₂ F.mul (h zero (omega arith) (λ e. omega (arith, e)))
      (but-ones n i (λ j. f (suc j)) (λ j l d. h (suc j) (omega (arith, l)) (λ e. d (omega (arith, e))))) ∙ R.mul_one 𝟙

  below-zero : (n j : ℕ) (f : ℕ → A) → j < n → f j ≡ 𝟘 → product_below F n f ≡ 𝟘
  below-zero zero j f l e = absurd (omega (arith, l))
  below-zero (suc n) zero f l e = ap (λ x. x ⊗ product_below F n (λ j. f (suc j))) e ∙ zero_mul F R (product_below F n (λ j. f (suc j)))
  below-zero (suc n) (suc j) f l e = ap (λ x. f zero ⊗ x) (below-zero n j (λ j. f (suc j)) (omega (arith, l)) e) ∙ mul_zero F R (f zero)

  but-zero : (n i j : ℕ) (f : ℕ → A) → j < n → j ≢ i → f j ≡ 𝟘 → product_but F n i f ≡ 𝟘
  but-zero zero i j f l d e = absurd (omega (arith, l))
  but-zero (suc n) zero zero f l d e = absurd (d refl)
  but-zero (suc n) zero (suc j) f l d e = below-zero n j (λ j. f (suc j)) (omega (arith, l)) e
  but-zero (suc n) (suc i) zero f l d e = ap (λ x. x ⊗ product_but F n i (λ j. f (suc j))) e ∙ zero_mul F R (product_but F n i (λ j. f (suc j)))
  but-zero (suc n) (suc i) (suc j) f l d e = ap (λ x. f zero ⊗ x) (but-zero n i j (λ j. f (suc j)) (omega (arith, l)) (λ s. d (omega (arith, s))) e) ∙ mul_zero F R (f zero)

  below-degree : (n e : ℕ) (f : ℕ → A → A) → ((j : ℕ) → HasDegreeBelow F (suc e) (f j))
      → HasDegreeBelow F (suc (n * e)) (λ z. product_below F n (λ j. f j z))
  below-degree zero e f h = degree-more F R 1 (suc (0 * e)) (λ _. 𝟙) (omega arith) (degree-constant F R 𝟙)
  below-degree (suc n) e f h = degree-more F R (suc (e + n * e)) (suc (suc n * e)) (λ z. f zero z ⊗ product_below F n (λ j. f (suc j) z)) (omega arith)
      (degree-mul F R e (n * e) (f zero) (λ z. product_below F n (λ j. f (suc j) z)) (h zero) (below-degree n e (λ j. f (suc j)) (λ j. h (suc j))))

  but-degree : (m i e : ℕ) (f : ℕ → A → A) → i < suc m → ((j : ℕ) → HasDegreeBelow F (suc e) (f j))
      → HasDegreeBelow F (suc (m * e)) (λ z. product_but F (suc m) i (λ j. f j z))
  but-degree m zero e f l h = below-degree m e (λ j. f (suc j)) (λ j. h (suc j))
  but-degree zero (suc i) e f l h = absurd (omega (arith, l))
  but-degree (suc m) (suc i) e f l h = degree-more F R (suc (e + m * e)) (suc (suc m * e)) (λ z. f zero z ⊗ product_but F (suc m) i (λ j. f (suc j) z)) (omega arith)
      (degree-mul F R e (m * e) (f zero) (λ z. product_but F (suc m) i (λ j. f (suc j) z)) (h zero) (but-degree m i e (λ j. f (suc j)) (omega (arith, l)) (λ j. h (suc j))))

  pub sum-degree : (n d : ℕ) (f : ℕ → A → A) → ((i : ℕ) → i < n → HasDegreeBelow F d (f i))
      → HasDegreeBelow F d (λ z. sum_below F n (λ i. f i z))
  unfolding sum_below
  sum-degree zero d f h = degree-zero F R d
  sum-degree (suc n) d f h = degree-add F R d (f zero) (λ z. sum_below F n (λ i. f (suc i) z)) (h zero (omega arith))
      (sum-degree n d (λ i. f (suc i)) (λ i l. h (suc i) (omega (arith, l))))

  vanishing-degree : (s : A) (k : ℕ) → HasDegreeBelow F (suc (2 ^ k)) (λ z. vanishing F s k z)
  vanishing-degree s k = degree-sub F R (suc (2 ^ k)) (λ z. pow F (z ⊗ inv s) (2 ^ k)) (λ _. 𝟙)
      (degree-same F R (λ z. pow F (inv s ⊗ z) (2 ^ k)) (λ z. pow F (z ⊗ inv s) (2 ^ k)) (λ z. ap (λ y. pow F y (2 ^ k)) (R.mul_comm z (inv s)))
      (degree-stretched F R (suc (2 ^ k)) (inv s) (λ z. pow F z (2 ^ k)) (degree-power F R (2 ^ k))))
      (degree-more F R 1 (suc (2 ^ k)) (λ _. 𝟙) (omega arith) (degree-constant F R 𝟙))

  -- turned within its coset a point keeps the values of vanishing polynomials
  vanishing-turned : (s t y : A) (k : ℕ) → pow F y (2 ^ k) ≡ 𝟙 → vanishing F s k (t ⊗ y) ≡ vanishing F s k t
  vanishing-turned s t y k e = ap (λ p. sub F p 𝟙)
      (ap (λ x. pow F x (2 ^ k)) (ring F R 3 (λ t y i. t :* y :* i := t :* i :* y) refl t y (inv s))
      ∙ sym (pow-times F R (t ⊗ inv s) y (2 ^ k))
      ∙ ap (λ p. pow F (t ⊗ inv s) (2 ^ k) ⊗ p) e
      ∙ R.mul_one (pow F (t ⊗ inv s) (2 ^ k)))

module _ {A : Type 0} (F : FieldOps A) (L : IsField F) (top : ℕ) (w : ℕ → A) (W : AreRoots F top w)
    (k : ℕ) (b : k ≤ top) (s : ℕ → A) where
  open F use {zero as 𝟘, one as 𝟙, mul as ◌⊗◌, inv}

  infixl 70 ◌⊗◌
  factor-degree : (m i : ℕ) → i < suc m → HasDegreeBelow F (suc (m * 2 ^ k)) (λ z. chunk_factor F (suc m) k s i z)
  factor-degree m i l = but-degree F L.ring m i (2 ^ k) (λ j z. vanishing F (s j) k z ⊗ inv (vanishing F (s j) k (s i))) l
      (λ j. degree-same F L.ring (λ z. inv (vanishing F (s j) k (s i)) ⊗ vanishing F (s j) k z) (λ z. vanishing F (s j) k z ⊗ inv (vanishing F (s j) k (s i)))
      (λ z. L.mul_comm (vanishing F (s j) k z) (inv (vanishing F (s j) k (s i))))
      (degree-scale F L.ring (suc (2 ^ k)) (inv (vanishing F (s j) k (s i))) (λ z. vanishing F (s j) k z) (vanishing-degree F L.ring (s j) k)))

  module _ (n : ℕ) (nonzero : (i : ℕ) → i < n → s i ≢ 𝟘) (apart : ChunksApart F n k s) where
    abbrev chunk_point : ℕ → ℕ → A
    chunk_point i j = s i ⊗ pow F (w k) j

    -- at a chunk's own points its factor is one, and each other one zero
    own-factor : (i j : ℕ) → i < n → chunk_factor F n k s i (chunk_point i j) ≡ 𝟙
    own-factor i j l = but-ones F L.ring n i (λ c. vanishing F (s c) k (chunk_point i j) ⊗ inv (vanishing F (s c) k (s i)))
        (λ c lc d. ap (λ v. v ⊗ inv (vanishing F (s c) k (s i))) (vanishing-turned F L.ring (s c) (s i) (pow F (w k) j) k (points-turn F L top w W k b j))
        ∙ L.mul_inv (vanishing F (s c) k (s i)) (apart i c l lc d))

    vanishing-own : (i j : ℕ) → i < n → vanishing F (s i) k (chunk_point i j) ≡ 𝟘
    vanishing-own i j l = vanishing-turned F L.ring (s i) (s i) (pow F (w k) j) k (points-turn F L top w W k b j)
        ∙ vanishing_where_powers_agree F L (s i) (s i) k (nonzero i l) refl

    other-factor : (c i j : ℕ) → i < n → c ≢ i → chunk_factor F n k s c (chunk_point i j) ≡ 𝟘
    other-factor c i j l d = but-zero F L.ring n c i (λ e. vanishing F (s e) k (chunk_point i j) ⊗ inv (vanishing F (s e) k (s c))) l (λ e. d (sym e))
        (ap (λ v. v ⊗ inv (vanishing F (s i) k (s c))) (vanishing-own i j l) ∙ zero_mul F L.ring (inv (vanishing F (s i) k (s c))))

    recombined-there : (v : ℕ → A) (i j : ℕ) → i < n → recombined F n k s v (chunk_point i j) ≡ v i
    unfolding recombined
    recombined-there v i j l =
        sum_below-single F L.ring n (λ c. v c ⊗ chunk_factor F n k s c (chunk_point i j)) i l
        (λ c lc d. ap (λ f. v c ⊗ f) (other-factor c i j l d) ∙ mul_zero F L.ring (v c))
        ∙ ap (λ f. v i ⊗ f) (own-factor i j l) ∙ L.mul_one (v i)

    decide : (i j : ℕ) → (i ≡ j) ⊎ (i ≢ j)
    decide i j = grind arith

    -- points of all chunks differ
    same_point : (a c i j : ℕ) → a < n → c < n → i < 2 ^ k → j < 2 ^ k → chunk_point a i ≡ chunk_point c j → (a ≡ c) × (i ≡ j)
    same_point a c i j la lc li lj e = elim (decide a c) [
      | inl same ↦ (
        same,
        powers_differ F L top w W k i j b li lj
            (cancel_factor F L (s a) (pow F (w k) i) (pow F (w k) j) (nonzero a la) (e ∙ ap (λ x. s x ⊗ pow F (w k) j) (sym same))),
      )
      | inr other ↦ absurd (apart c a lc la other
          (sym (vanishing-turned F L.ring (s a) (s c) (pow F (w k) j) k (points-turn F L top w W k b j))
          ∙ ap (λ x. vanishing F (s a) k x) (sym e) ∙ vanishing-own a i la))
    ]

    abbrev all_points : ℕ → A
    all_points t = chunk_point (t / 2 ^ k) (t % 2 ^ k)

    chunk-below : (t : ℕ) → t < n * 2 ^ k → t / 2 ^ k < n
    chunk-below t l = below (2 ^ k) (t / 2 ^ k) (t % 2 ^ k) (div-add-mod t (2 ^ k)) l
      where
        below : (m q r : ℕ) → m * q + r ≡ t → t < n * m → q < n
        below m q r e l = elim (order q n) [ inl h ↦ h | inr h ↦ absurd (let more : m * n ≤ m * q = mul-le-mul_left m h in omega (arith, e, l, more)) ]
          where
            order : (q n : ℕ) → (q < n) ⊎ (n ≤ q)
            order q n = grind arith

    points-distinct : Distinct (tabulate (n * 2 ^ k) all_points)
    points-distinct = distinct-tabulate (n * 2 ^ k) all_points (λ i j p q e.
        let h = same_point (i / 2 ^ k) (j / 2 ^ k) (i % 2 ^ k) (j % 2 ^ k)
        (chunk-below i (omega (arith, p, q))) (chunk-below j q) (mod-lt i (pow_pos k)) (mod-lt j (pow_pos k)) e in
        differ (2 ^ k) i j p (i / 2 ^ k) (j / 2 ^ k) (i % 2 ^ k) (j % 2 ^ k) (div-add-mod i (2 ^ k)) (div-add-mod j (2 ^ k)) h.0 h.1)
      where
        differ : (m i j : ℕ) → i < j → (a c x y : ℕ) → m * a + x ≡ i → m * c + y ≡ j → a ≡ c → x ≡ y → ⊥
        differ m i j p a c x y e f g h = omega (arith, p, sym e ∙ ap₂ (λ a x. m * a + x) g h ∙ f)

  pub chunks_recombine : (n : ℕ) → ((i : ℕ) → i < n → s i ≢ 𝟘) → ChunksApart F n k s
      → (q : A → A) → HasDegreeBelow F (n * 2 ^ k) q
      → (v : ℕ → A → A) → ((i : ℕ) → i < n → HasDegreeBelow F (2 ^ k) (v i))
      → ((i j : ℕ) → i < n → j < 2 ^ k → v i (s i ⊗ pow F (w k) j) ≡ q (s i ⊗ pow F (w k) j))
      → (z : A) → recombined F n k s (λ i. v i z) z ≡ q z
  unfolding recombined
  chunks_recombine n nonzero apart q dq v dv same z =
      degree-equal F L (n * 2 ^ k) (λ x. recombined F n k s (λ i. v i x) x) q
      (whole n dv) dq (tabulate (n * 2 ^ k) (all_points n nonzero apart)) (points-distinct n nonzero apart)
      (omega (arith, length-tabulate (n * 2 ^ k) (all_points n nonzero apart)))
      (each-tabulate (λ x. recombined F n k s (λ i. v i x) x ≡ q x) (n * 2 ^ k) (all_points n nonzero apart)
      (λ t l. recombined-there n nonzero apart (λ i. v i (all_points n nonzero apart t)) (t / 2 ^ k) (t % 2 ^ k) (chunk-below n nonzero apart t l)
      ∙ same (t / 2 ^ k) (t % 2 ^ k) (chunk-below n nonzero apart t l) (mod-lt t (pow_pos k)))) z
    where
      before : (m : ℕ) → 0 < m → (p : ℕ) × (suc p ≡ m)
      before zero p = absurd (omega (arith, p))
      before (suc p) l = (p, refl)

      fits : (p m N : ℕ) → suc p ≡ N → suc (p + m * N) ≤ suc m * N
      fits p m N e = omega (arith, e)

      whole : (n : ℕ) → ((i : ℕ) → i < n → HasDegreeBelow F (2 ^ k) (v i)) → HasDegreeBelow F (n * 2 ^ k) (λ x. recombined F n k s (λ i. v i x) x)
      whole zero dv = sum-degree F L.ring 0 (0 * 2 ^ k) (λ i x. v i x ⊗ chunk_factor F 0 k s i x) (λ i l. absurd (omega (arith, l)))
      whole (suc m) dv = sum-degree F L.ring (suc m) (suc m * 2 ^ k) (λ i x. v i x ⊗ chunk_factor F (suc m) k s i x)
          (λ i l. let p = before (2 ^ k) (pow_pos k) in
          degree-more F L.ring (suc (p.0 + m * 2 ^ k)) (suc m * 2 ^ k) (λ x. v i x ⊗ chunk_factor F (suc m) k s i x) (fits p.0 m (2 ^ k) p.1)
          (degree-mul F L.ring p.0 (m * 2 ^ k) (v i) (λ x. chunk_factor F (suc m) k s i x)
          (degree-more F L.ring (2 ^ k) (suc p.0) (v i) (omega (arith, p.1)) (dv i l)) (factor-degree m i l)))

module _ {A : Type 0} (F : FieldOps A) (L : IsField F) (top : ℕ) (w : ℕ → A) (W : AreRoots F top w)
    (shift : A) (n : shift ≢ F.zero) (k d : ℕ) (b : k + d ≤ top) where
  open F use {zero as 𝟘, one as 𝟙, mul as ◌⊗◌, inv}

  infixl 70 ◌⊗◌
  abbrev root : A
  root = w (k + d)

  split-power : (i : ℕ) → pow F (pow F root i) (2 ^ k) ≡ pow F (w d) i
  split-power i =
      sym (pow-mul F L.ring root (2 ^ k) i) ∙ ap (λ m. pow F root m) (mul_comm (2 ^ k) i)
      ∙ pow-mul F L.ring root i (2 ^ k)
      ∙ ap (λ x. pow F x i) (ap (λ m. pow F (w m) (2 ^ k)) (let e : k + d ≡ d + k = omega arith in e)
      ∙ root-power F L top w W k d (omega (arith, b)))

  split-nonzero : (i : ℕ) → shift ⊗ pow F root i ≢ 𝟘
  split-nonzero i e = pow-nonzero F L root i (root-nonzero F L top w W (k + d) b) (cancel_zero F L shift (pow F root i) n e)

  split-apart : ChunksApart F (2 ^ d) k (λ i. shift ⊗ pow F root i)
  split-apart i j li lj other e = other (sym
      (powers_differ F L top w W d i j (omega (arith, b)) li lj
      (sym (split-power i)
      ∙ cancel_factor F L (pow F shift (2 ^ k)) (pow F (pow F root i) (2 ^ k)) (pow F (pow F root j) (2 ^ k)) (pow-nonzero F L shift (2 ^ k) n)
      (pow-times F L.ring shift (pow F root i) (2 ^ k)
      ∙ powers_agree_where_vanishing F L (shift ⊗ pow F root j) (shift ⊗ pow F root i) k (split-nonzero j) e
      ∙ sym (pow-times F L.ring shift (pow F root j) (2 ^ k)))
      ∙ split-power j)))

  pub cosets_split : IsSplit F w shift k d
  cosets_split = record {
    nonzero = split-nonzero;
    apart = split-apart;
    points = λ i j. L.mul_assoc shift (pow F root i) (pow F (w k) j)
        ∙ ap (λ x. shift ⊗ x)
        (ap (λ y. pow F root i ⊗ y) (ap (λ x. pow F x j) (sym (root-power F L top w W d k b)) ∙ sym (pow-mul F L.ring root j (2 ^ d)))
        ∙ sym (pow-add F L.ring root i (j * 2 ^ d)));
  }
