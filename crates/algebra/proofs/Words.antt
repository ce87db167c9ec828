-- Words: their restriction to a smaller domain, and the one polynomial behind each.
use Rattle.std.proofs.Common.{◌≡◌, ℕ, zero, suc, ◌+◌, ◌*◌, ◌/◌, ◌^◌, ◌<◌, ◌≤◌, List, ◌∷◌, length}
use Rattle.std.proofs.Common.{take, drop, get_or, refl, sym, ap, ◌∙◌, arith, suc-add}
use Rattle.std.proofs.lemmas.Nat.{div-mul-add}
use Rattle.std.proofs.Math.Nat.{pow-le-pow_right}
use Rattle.algebra.specs.Field.{FieldOps, IsField, pow}
use Rattle.algebra.specs.Polynomial.{val, tabulate}
use Rattle.algebra.specs.Digits.{rev}
use Rattle.algebra.specs.TwoAdic.{AreRoots, pt}
use Rattle.algebra.specs.Words.{word, coset_word}
use Rattle.algebra.specs.Interpolation.{Interpolates, interpolant}
use Rattle.algebra.specs.Laws.{WordsAreDetermined}
use Rattle.algebra.proofs.Combine.{cancel_factor}
use Rattle.algebra.proofs.Powers.{pow-mul}
use Rattle.algebra.proofs.Digits.{rev-split, rev-of_zero, rev-lt}
use Rattle.algebra.proofs.Interpolation.{equal_from_values, interpolates_unique}
use Rattle.algebra.proofs.Interpolation.{interpolant_interpolates}
use Rattle.algebra.proofs.Points.{root-power, points_differ}
use Rattle.algebra.proofs.Lists.{Each, Distinct, length-tabulate, get_or-tabulate, map-tabulate}
use Rattle.algebra.proofs.Lists.{tabulate-equal, head_eq, tail_eq, distinct-tabulate}

pub take-tabulate : {A : Type 0} (m n : ℕ) (f : ℕ → A) → m ≤ n → take m (tabulate n f) ≡ tabulate m f
take-tabulate zero n f b = refl
take-tabulate (suc m) zero f b = absurd (omega (arith, b))
take-tabulate (suc m) (suc n) f b = ap (λ xs. f zero ∷ xs) (take-tabulate m n (λ i. f (suc i)) (omega (arith, b)))

pub drop-tabulate : {A : Type 0} (m n : ℕ) (f : ℕ → A) → drop m (tabulate (m + n) f) ≡ tabulate n (λ i. f (m + i))
drop-tabulate zero n f = ap (λ k. tabulate k f) (omega arith) ∙ tabulate-equal n f (λ i. f (0 + i)) (λ i _. ap f (omega arith))
drop-tabulate (suc m) n f = ap (λ k. drop (suc m) (tabulate k f)) (suc-add m n) ∙ drop-tabulate m n (λ i. f (suc i)) ∙ tabulate-equal n (λ i. f (suc (m + i))) (λ i. f (suc m + i)) (λ i _. ap f (omega arith))

-- equal rows have equal entries, one by one
each-tabulate : {A B : Type 0} (n : ℕ) (f g : A → B) (x : ℕ → A) → tabulate n (λ i. f (x i)) ≡ tabulate n (λ i. g (x i)) → Each (λ y. f y ≡ g y) (tabulate n x)
each-tabulate zero f g x e = tt
each-tabulate (suc n) f g x e = (head_eq e, each-tabulate n f g (λ i. x (suc i)) (tail_eq e))

module _ {A : Type 0} (F : FieldOps A) (L : IsField F) (top : ℕ) (w : ℕ → A) (W : AreRoots F top w) where
  infixl 70 ◌⊗◌
  open F use {zero as 𝟘, mul as ◌⊗◌}

  -- the first `2^j` points of a domain are the domain of that size
  pub point-restrict : (i j m : ℕ) → i < 2 ^ j → j + m ≤ top → pt F w i (j + m) ≡ pt F w i j
  unfolding pt
  point-restrict i j m l b =
      ap (λ n. pow F (w (j + m)) n) (rev-split j m i ∙ ap (λ q. rev j i * 2 ^ m + rev m q) (small i (2 ^ j) l) ∙ ap (λ r. rev j i * 2 ^ m + r) (rev-of_zero m) ∙ omega arith)
      ∙ pow-mul F L.ring (w (j + m)) (rev j i) (2 ^ m)
      ∙ ap (λ x. pow F x (rev j i)) (root-power F L top w W m j b)
    where
      small : (i n : ℕ) → i < n → i / n ≡ 0
      small i n l = ap (λ t. t / n) (omega arith) ∙ div-mul-add 0 n i l

  -- a word, cut to a smaller domain, is that of the same polynomial
  pub word-restrict : (j m : ℕ) (c : List A) → j + m ≤ top → take (2 ^ j) (word F w (j + m) c) ≡ word F w j c
  word-restrict j m c b =
      take-tabulate (2 ^ j) (2 ^ (j + m)) (λ i. val F c (pt F w i (j + m))) (pow-le-pow_right {n = 2} (omega arith) {i = j} {j = j + m} (omega arith))
      ∙ tabulate-equal (2 ^ j) (λ i. val F c (pt F w i (j + m))) (λ i. val F c (pt F w i j)) (λ i l. ap (λ x. val F c x) (point-restrict i j m l b))

  pub coset_word-restrict : (shift : A) (j m : ℕ) (c : List A) → j + m ≤ top → take (2 ^ j) (coset_word F w shift (j + m) c) ≡ coset_word F w shift j c
  coset_word-restrict shift j m c b =
      take-tabulate (2 ^ j) (2 ^ (j + m)) (λ i. val F c (shift ⊗ pt F w i (j + m))) (pow-le-pow_right {n = 2} (omega arith) {i = j} {j = j + m} (omega arith))
      ∙ tabulate-equal (2 ^ j) (λ i. val F c (shift ⊗ pt F w i (j + m))) (λ i. val F c (shift ⊗ pt F w i j)) (λ i l. ap (λ x. val F c (shift ⊗ x)) (point-restrict i j m l b))

  not_below : (i j : ℕ) → i < j → i ≡ j → ⊥
  not_below i j p e = omega (arith, p, e)

  pub coset_word_injective : (shift : A) → ¬ (shift ≡ 𝟘) → (k : ℕ) (c d : List A) → k ≤ top → length c ≡ length d → length c ≤ 2 ^ k → coset_word F w shift k c ≡ coset_word F w shift k d → c ≡ d
  coset_word_injective shift z k c d b e n h =
      equal_from_values F L c d (tabulate (2 ^ k) (λ i. shift ⊗ pt F w i k)) e (omega (arith, n, length-tabulate (2 ^ k) (λ i. shift ⊗ pt F w i k)))
      (distinct-tabulate (2 ^ k) (λ i. shift ⊗ pt F w i k) (λ i j p q s. not_below i j p (points_differ F L top w W k i j b (omega (arith, p, q)) q (cancel_factor F L shift (pt F w i k) (pt F w j k) z s))))
      (each-tabulate (2 ^ k) (λ x. val F c x) (λ x. val F d x) (λ i. shift ⊗ pt F w i k) h)

  coset_points_distinct : (shift : A) → ¬ (shift ≡ 𝟘) → (k : ℕ) → k ≤ top → Distinct (tabulate (2 ^ k) (λ i. shift ⊗ pt F w i k))
  coset_points_distinct shift z k b =
      distinct-tabulate (2 ^ k) (λ i. shift ⊗ pt F w i k) (λ i j p q s. not_below i j p (points_differ F L top w W k i j b (omega (arith, p, q)) q (cancel_factor F L shift (pt F w i k) (pt F w j k) z s)))

  coset_interpolates : (shift : A) → ¬ (shift ≡ 𝟘) → (k : ℕ) → k ≤ top → (ys : List A) → length ys ≡ 2 ^ k → Interpolates F (tabulate (2 ^ k) (λ i. shift ⊗ pt F w i k)) ys (interpolant F (tabulate (2 ^ k) (λ i. shift ⊗ pt F w i k)) ys)
  coset_interpolates shift z k b ys n =
      interpolant_interpolates F L (tabulate (2 ^ k) (λ i. shift ⊗ pt F w i k)) ys (length-tabulate (2 ^ k) (λ i. shift ⊗ pt F w i k) ∙ sym n) (coset_points_distinct shift z k b)

  pub coset_words : (shift : A) → ¬ (shift ≡ 𝟘) → (k m : ℕ) → k + m ≤ top → WordsAreDetermined F w shift k m
  unfolding pt
  coset_words shift z k m b =
      let points = tabulate (2 ^ k) (λ i. shift ⊗ pt F w i k) in
      let small : k ≤ top = omega (arith, b) in
      record {
        restricted = λ c. coset_word-restrict shift k m c b;
        extended = λ c d e n h. ap (λ p. coset_word F w shift (k + m) p) (coset_word_injective shift z k c d small e n h);
        interpolated = λ ys n.
            let found = coset_interpolates shift z k small ys n in
            record {
              polynomial = interpolant F points ys;
              degree = found.count ∙ length-tabulate (2 ^ k) (λ i. shift ⊗ pt F w i k);
              values = sym (sym (map-tabulate (λ x. val F (interpolant F points ys) x) (2 ^ k) (λ i. shift ⊗ pt F w i k)) ∙ found.values);
            };
        coefficients = λ c n.
            interpolates_unique F L points (coset_word F w shift k c) (interpolant F points (coset_word F w shift k c)) c (coset_points_distinct shift z k small)
            (coset_interpolates shift z k small (coset_word F w shift k c) (length-tabulate (2 ^ k) (λ i. val F c (shift ⊗ pt F w i k))))
            (record { count = n ∙ sym (length-tabulate (2 ^ k) (λ i. shift ⊗ pt F w i k)); values = map-tabulate (λ x. val F c x) (2 ^ k) (λ i. shift ⊗ pt F w i k) });
        turned = λ c d.
            tabulate-equal (2 ^ k) (λ i. get_or (tabulate (2 ^ k) (λ j. val F c (shift ⊗ pow F (w k) j))) (rev k i) d) (λ i. val F c (shift ⊗ pt F w i k))
            (λ i l. get_or-tabulate (2 ^ k) (λ j. val F c (shift ⊗ pow F (w k) j)) (rev k i) d (rev-lt k i));
      }
