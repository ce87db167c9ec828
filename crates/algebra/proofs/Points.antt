-- The points of two-adic domains: their laws, and that they differ.
use Rattle.std.proofs.Common.{◌≡◌, ◌⊎◌, inl, inr, ℕ, zero, suc, ◌+◌, ◌*◌, ◌^◌, ◌<◌, ◌≤◌, refl, sym}
use Rattle.std.proofs.Common.{ap, ap₂, ◌∙◌, arith, mul_comm, add_comm, add-suc}
use Rattle.std.proofs.lemmas.Nat.{pow-add, pow-add as nat-pow-add, mul-add-lt, div-mul-add}
use Rattle.algebra.specs.Field.{FieldOps, IsField, IsHomomorphism, pow}
use Rattle.algebra.specs.Interpolation.{AreDistinct}
use Rattle.algebra.specs.Digits.{rev}
use Rattle.algebra.specs.TwoAdic.{AreRoots, pt, domain_points, row_points}
use Rattle.algebra.proofs.Ring.{◌:+◌, ◌:*◌, ◌:=◌, ring, o, minus, :1}
use Rattle.algebra.proofs.RingLaws.{one_mul, zero_mul, neg_unique}
use Rattle.algebra.proofs.Combine.{combine, cancel_zero}
use Rattle.algebra.proofs.Powers.{double, pow-one, pow-add as power-add, pow-times, pow-mul}
use Rattle.algebra.proofs.Powers.{pow-nonzero, pow-one_base}
use Rattle.algebra.proofs.Digits.{rev-even, rev-odd, rev-lt, rev-rev, rev-split}
use Rattle.algebra.proofs.Lists.{distinct-tabulate, AllPairs_from_distinct}

-- `j` is twice `q`, or one more
unfoldable pub IsHalf : ℕ → ℕ → Type 0
IsHalf j q = (j ≡ q + q) ⊎ (j ≡ suc (q + q))

pub half : (j : ℕ) → (q : ℕ) × IsHalf j q
unfolding IsHalf
half zero = (0, inl refl)
half (suc j) = next (half j)
  where
    next : (q : ℕ) × ((j ≡ q + q) ⊎ (j ≡ suc (q + q))) → (q : ℕ) × ((suc j ≡ q + q) ⊎ (suc j ≡ suc (q + q)))
    next h = elim h.1 [ inl e ↦ (h.0, inr (omega (arith, e))) | inr e ↦ (suc h.0, inl (omega (arith, e))) ]

pub half-below : (n j q : ℕ) → IsHalf j q → j < n + n → q < n
unfolding IsHalf
half-below n j q (inl e) l = omega (arith, e, l)
half-below n j q (inr e) l = omega (arith, e, l)

module _ {A : Type 0} (F : FieldOps A) (L : IsField F) (top : ℕ) (w : ℕ → A) (W : AreRoots F top w) where
  infixl 65 ◌⊕◌
  infixl 70 ◌⊗◌
  open F use {zero as 𝟘, one as 𝟙, add as ◌⊕◌, mul as ◌⊗◌, neg, inv}

  pub root-nonzero : (k : ℕ) → k ≤ top → ¬ (w k ≡ 𝟘)
  root-nonzero zero b e = L.one_not_zero (sym W.first ∙ e)
  root-nonzero (suc k) b e = root-nonzero k (omega (arith, b)) (sym (W.square k b) ∙ ap (λ x. x ⊗ w (suc k)) e ∙ zero_mul F L.ring (w (suc k)))

  -- half of the order is minus one
  pub half_turn : (k : ℕ) → k < top → pow F (w (suc k)) (2 ^ k) ≡ neg 𝟙
  half_turn zero b = pow-one F L.ring (w 1) ∙ W.minus_one b
  half_turn (suc k) b = ap (λ n. pow F (w (suc (suc k))) n) (double k) ∙ power-add F L.ring (w (suc (suc k))) (2 ^ k) (2 ^ k) ∙ pow-times F L.ring (w (suc (suc k))) (w (suc (suc k))) (2 ^ k) ∙ ap (λ x. pow F x (2 ^ k)) (W.square (suc k) b) ∙ half_turn k (omega (arith, b))

  -- the order divides `2^k`
  pub full_turn : (k : ℕ) → k ≤ top → pow F (w k) (2 ^ k) ≡ 𝟙
  full_turn zero b = pow-one F L.ring (w zero) ∙ W.first
  full_turn (suc k) b = ap (λ n. pow F (w (suc k)) n) (double k) ∙ power-add F L.ring (w (suc k)) (2 ^ k) (2 ^ k) ∙ ap₂ (λ x y. x ⊗ y) (half_turn k b) (half_turn k b) ∙ ring F L.ring 0 (minus :1 :* minus :1 := :1) refl

  -- `2^a`-th powers lead down the family of roots
  pub root-power : (a h : ℕ) → h + a ≤ top → pow F (w (h + a)) (2 ^ a) ≡ w h
  root-power zero h b = pow-one F L.ring (w (h + 0)) ∙ ap w (omega arith)
  root-power (suc a) h b =
      ap (λ n. pow F (w (h + suc a)) n) (double a)
      ∙ power-add F L.ring (w (h + suc a)) (2 ^ a) (2 ^ a)
      ∙ pow-times F L.ring (w (h + suc a)) (w (h + suc a)) (2 ^ a)
      ∙ ap (λ x. pow F x (2 ^ a)) (ap (λ n. w n ⊗ w n) (add-suc h a) ∙ W.square (h + a) (omega (arith, b)))
      ∙ root-power a h (omega (arith, b))

  -- the points of a row are the `2^a`-th roots of the row's point in the folded domain
  pub row-power : (i j a h : ℕ) → j < 2 ^ a → h + a ≤ top → pow F (pt F w (i * 2 ^ a + j) (h + a)) (2 ^ a) ≡ pt F w i h
  unfolding pt
  row-power i j a h l b =
      sym (pow-mul F L.ring (w (h + a)) (2 ^ a) (rev (h + a) n))
      ∙ ap (λ m. pow F (w (h + a)) (2 ^ a * m)) (ap (λ k. rev k n) (add_comm h a) ∙ rev-split a h n ∙ ap (λ q. rev a n * 2 ^ h + rev h q) (div-mul-add i (2 ^ a) j l))
      ∙ ap (λ m. pow F (w (h + a)) m) (sort (2 ^ a) (rev a n) (2 ^ h) (rev h i) ∙ ap (λ p. rev a n * p + rev h i * 2 ^ a) (sym (nat-pow-add 2 h a)))
      ∙ power-add F L.ring (w (h + a)) (rev a n * 2 ^ (h + a)) (rev h i * 2 ^ a)
      ∙ ap₂ (λ x y. x ⊗ y)
      (pow-mul F L.ring (w (h + a)) (rev a n) (2 ^ (h + a)) ∙ ap (λ x. pow F x (rev a n)) (full_turn (h + a) b) ∙ pow-one_base F L.ring (rev a n))
      (pow-mul F L.ring (w (h + a)) (rev h i) (2 ^ a) ∙ ap (λ x. pow F x (rev h i)) (root-power a h b))
      ∙ one_mul F L.ring (pow F (w h) (rev h i))
    where
      n : ℕ
      n = i * 2 ^ a + j

      sort : (p r q s : ℕ) → p * (r * q + s) ≡ r * (q * p) + s * p
      sort p r q s = omega arith

  -- the points of one domain are roots of unity
  pub point-full_turn : (i k : ℕ) → k ≤ top → pow F (pt F w i k) (2 ^ k) ≡ 𝟙
  unfolding pt
  point-full_turn i k b =
      sym (pow-mul F L.ring (w k) (2 ^ k) (rev k i))
      ∙ ap (λ n. pow F (w k) n) (mul_comm (2 ^ k) (rev k i))
      ∙ pow-mul F L.ring (w k) (rev k i) (2 ^ k)
      ∙ ap (λ x. pow F x (rev k i)) (full_turn k b)
      ∙ pow-one_base F L.ring (rev k i)

  -- a point with an even index, squared, is a point of the domain of half the size
  pub point-square : (i k : ℕ) → k < top → pt F w (i + i) (suc k) ⊗ pt F w (i + i) (suc k) ≡ pt F w i k
  unfolding pt
  point-square i k b = ap₂ (λ m n. pow F (w (suc k)) m ⊗ pow F (w (suc k)) n) (rev-even k i) (rev-even k i) ∙ pow-times F L.ring (w (suc k)) (w (suc k)) (rev k i) ∙ ap (λ x. pow F x (rev k i)) (W.square k b)

  -- its right neighbour is its negative
  pub point-opposite : (i k : ℕ) → k < top → pt F w (suc (i + i)) (suc k) ≡ neg (pt F w (i + i) (suc k))
  unfolding pt
  point-opposite i k b = ap (λ n. pow F (w (suc k)) n) (rev-odd k i) ∙ power-add F L.ring (w (suc k)) (2 ^ k) (rev k i) ∙ ap₂ (λ x n. x ⊗ pow F (w (suc k)) n) (half_turn k b) (sym (rev-even k i)) ∙ ring F L.ring 1 (λ x. minus :1 :* x := minus x) refl (pow F (w (suc k)) (rev (suc k) (i + i)))

  pub point-nonzero : (i k : ℕ) → k ≤ top → ¬ (pt F w i k ≡ 𝟘)
  unfolding pt
  point-nonzero i k b = pow-nonzero F L (w k) (rev k i) (root-nonzero k b)

  not_opposite : (x : A) → ¬ (x ≡ 𝟘) → ¬ (x ≡ neg x)
  not_opposite x n e = n (cancel_zero F L (𝟙 ⊕ 𝟙) x L.two_not_zero (combine F L.ring {k = 𝟙} e (ring F L.ring 1 (λ x. (:1 :+ :1) :* x :+ :1 :* minus x := o :+ :1 :* x) refl x)))

  -- both points of a pair have one square
  pub pair-square : (m j k : ℕ) → IsHalf j m → k < top → pt F w j (suc k) ⊗ pt F w j (suc k) ≡ pt F w m k
  unfolding IsHalf
  pair-square m j k (inl e) b = ap (λ i. pt F w i (suc k) ⊗ pt F w i (suc k)) e ∙ point-square m k b
  pair-square m j k (inr e) b = ap (λ i. pt F w i (suc k) ⊗ pt F w i (suc k)) e ∙ ap (λ x. x ⊗ x) (point-opposite m k b) ∙ ring F L.ring 1 (λ x. minus x :* minus x := x :* x) refl (pt F w (m + m) (suc k)) ∙ point-square m k b

  halves : (k i j p q : ℕ) → k < top → pt F w i (suc k) ≡ pt F w j (suc k) → IsHalf i p → IsHalf j q → p ≡ q → i ≡ j
  unfolding IsHalf
  halves k i j p q b e (inl h) (inl g) s = omega (arith, h, g, s)
  halves k i j p q b e (inr h) (inr g) s = omega (arith, h, g, s)
  halves k i j p q b e (inl h) (inr g) s = absurd (not_opposite (pt F w (q + q) (suc k)) (point-nonzero (q + q) (suc k) b) (ap (λ n. pt F w n (suc k)) (ap (λ n. n + n) (sym s) ∙ sym h) ∙ e ∙ ap (λ n. pt F w n (suc k)) g ∙ point-opposite q k b))
  halves k i j p q b e (inr h) (inl g) s = absurd (not_opposite (pt F w (p + p) (suc k)) (point-nonzero (p + p) (suc k) b) (ap (λ n. pt F w n (suc k)) (ap (λ n. n + n) s ∙ sym g) ∙ sym e ∙ ap (λ n. pt F w n (suc k)) h ∙ point-opposite p k b))

  -- an index below the size tells the points of one domain apart
  pub points_differ : (k i j : ℕ) → k ≤ top → i < 2 ^ k → j < 2 ^ k → pt F w i k ≡ pt F w j k → i ≡ j
  points_differ zero i j t a b e = omega (arith, a, b)
  points_differ (suc k) i j t a b e = halves k i j (half i).0 (half j).0 t e (half i).1 (half j).1 (points_differ k (half i).0 (half j).0 (omega (arith, t)) (half-below (2 ^ k) i (half i).0 (half i).1 (rw (double k) at a)) (half-below (2 ^ k) j (half j).0 (half j).1 (rw (double k) at b))
      (sym (pair-square (half i).0 i k (half i).1 t) ∙ ap₂ (λ x y. x ⊗ y) e e ∙ pair-square (half j).0 j k (half j).1 t))

  -- so the order of `w k` is `2^k`: its powers below that differ
  pub powers_differ : (k i j : ℕ) → k ≤ top → i < 2 ^ k → j < 2 ^ k → pow F (w k) i ≡ pow F (w k) j → i ≡ j
  unfolding pt
  powers_differ k i j t a b e =
      let same : rev k i ≡ rev k j = points_differ k (rev k i) (rev k j) t (rev-lt k i) (rev-lt k j) (ap (λ n. pow F (w k) n) (rev-rev k i a) ∙ e ∙ ap (λ n. pow F (w k) n) (sym (rev-rev k j b))) in
      sym (rev-rev k i a) ∙ ap (λ n. rev k n) same ∙ rev-rev k j b

  pub domain_distinct : (k : ℕ) → k ≤ top → AreDistinct (domain_points F w k)
  domain_distinct k t = AllPairs_from_distinct (domain_points F w k) (distinct-tabulate (2 ^ k) (λ i. pt F w i k) (λ i j p q e. below_not_equal i j p (points_differ k i j t (omega (arith, p, q)) q e)))
    where
      below_not_equal : (i j : ℕ) → i < j → i ≡ j → ⊥
      below_not_equal i j p e = omega (arith, p, e)

  pub row_distinct : (i a h : ℕ) → h + a ≤ top → i < 2 ^ h → AreDistinct (row_points F w i a h)
  row_distinct i a h t l = AllPairs_from_distinct (row_points F w i a h) (distinct-tabulate (2 ^ a) (λ j. pt F w (i * 2 ^ a + j) (h + a)) (λ m n p q e. differ m n p (points_differ (h + a) (i * 2 ^ a + m) (i * 2 ^ a + n) t (inside m (omega (arith, p, q))) (inside n q) e)))
    where
      differ : (m n : ℕ) → m < n → i * 2 ^ a + m ≡ i * 2 ^ a + n → ⊥
      differ m n p e = omega (arith, p, e)

      inside : (m : ℕ) → m < 2 ^ a → i * 2 ^ a + m < 2 ^ (h + a)
      inside m q = rw (pow-add 2 h a) (below i (2 ^ h) (2 ^ a) m l q)
        where
          below : (i n k m : ℕ) → i < n → m < k → i * k + m < n * k
          below i n k m l q = rw (mul_comm n k) (mul-add-lt i k m n l q)

-- a homomorphism carries roots of unity
pub lifted_roots : {A E : Type 0} (F : FieldOps A) (K : FieldOps E) (h : A → E) → IsField F → IsField K → IsHomomorphism F K h → (top : ℕ) (w : ℕ → A) → AreRoots F top w → AreRoots K top (λ k. h (w k))
lifted_roots F K h L M H top w W = record {
  first = ap h W.first ∙ H.one;
  minus_one = λ b. ap h (W.minus_one b) ∙ neg_unique K M.ring K.one (h (F.neg F.one)) (ap (λ x. K.add x (h (F.neg F.one))) (sym H.one) ∙ sym (H.add F.one (F.neg F.one)) ∙ ap h (L.add_neg F.one) ∙ H.zero);
  square = λ k b. sym (H.mul (w (suc k)) (w (suc k))) ∙ ap h (W.square k b);
}
