-- The polynomials of words from their first entries, and their values on a domain.
use Rattle.std.proofs.Common.{◌≡◌, ◌≢◌, ℕ, ◌+◌, ◌-◌, ◌/◌, ◌^◌, ◌<◌, ◌≤◌, List, [], ◌∷◌, ◌++◌}
use Rattle.std.proofs.Common.{length, get_or, map, take, replicate, sym, ap, ◌∙◌, arith}
use Rattle.std.proofs.Common.{length-append}
use Rattle.std.proofs.Math.ListN.{get_or-map}
use Rattle.std.proofs.Math.Nat.{pow-le-pow_right, div-le_of_le-mul}
use Rattle.std.proofs.lemmas.List.{take-map, length-replicate, length-take-le}
use Rattle.std.proofs.lemmas.Nat.{pow_pos, pow-add}
use Rattle.algebra.specs.Field.{FieldOps, IsField, pow}
use Rattle.algebra.specs.Polynomial.{val, tabulate}
use Rattle.algebra.specs.Digits.{rev}
use Rattle.algebra.specs.TwoAdic.{AreRoots, pt}
use Rattle.algebra.specs.Words.{coset_word}
use Rattle.algebra.specs.Interpolation.{Interpolates}
use Rattle.algebra.proofs.Digits.{rev-lt, rev-rev}
use Rattle.algebra.proofs.Lists.{length-tabulate, get_or-tabulate, map-tabulate, tabulate-equal}
use Rattle.algebra.proofs.Lists.{map-each, distinct_from_AllPairs}
use Rattle.algebra.proofs.Values.{val-padded}
use Rattle.algebra.proofs.Interpolation.{equal_from_values}
use Rattle.algebra.proofs.Words.{coset_word-restrict}
use Rattle.algebra.proofs.PointTest.{coset_power}
use Rattle.p3_field_core.specs.Index.{bit_reversed}
use Rattle.p3_field_core.specs.Coset.{coset_point, coset_points}
use Rattle.p3_field_core.proofs.Cosets.{natural_distinct}
use Rattle.p3_matrix.specs.declared.dense.RowMajorMatrix.{RowMajorMatrix}
use Rattle.p3_matrix.specs.Matrix.{rows, matrix_width}
use Rattle.p3_dft.specs.Evaluations.{column, AreEvaluations}
use Rattle.p3_field_core.proofs.IndexReversal.{length-bit_reversed}
use Rattle.p3_field_core.proofs.IndexPowers.{exponents_agree}
use Rattle.p3_fri_extensions.specs.Committed.{AreFirstValues, AreFitted, AreCommittedValues}

-- how many coefficients there are
pub degree_within : (k b : ℕ) → 2 ^ k / 2 ^ b ≤ 2 ^ (k - b)
degree_within k b =
    div-le_of_le-mul (2 ^ b) {m = 2 ^ k} {n = 2 ^ (k - b)}
    (rw (← pow-add 2 b (k - b))
    (pow-le-pow_right {n = 2} (omega arith) {i = k} {j = b + (k - b)} (omega arith)))

reversed_entries : {A B : Type 0} (f : A → B) (k : ℕ) (xs : List A) (h : ℕ → B)
    → length xs ≡ 2 ^ k → map f xs ≡ tabulate (2 ^ k) h
    → map f (bit_reversed k xs) ≡ tabulate (2 ^ k) (λ i. h (rev k i))
unfolding bit_reversed
reversed_entries f k [] h size e = absurd (omega (arith, size, pow_pos k))
reversed_entries f k (x ∷ xs) h size e =
    map-tabulate f (2 ^ k) (λ i. get_or (x ∷ xs) (rev k i) x)
    ∙ tabulate-equal (2 ^ k) (λ i. f (get_or (x ∷ xs) (rev k i) x)) (λ i. h (rev k i))
    (λ i l. sym (get_or-map f (x ∷ xs) (rev k i) x)
    ∙ ap (λ ys. get_or ys (rev k i) (f x)) e
    ∙ get_or-tabulate (2 ^ k) h (rev k i) (f x) (rev-lt k i))

-- there are as many rows as asked for
pub length-first : {A : Type 0} (h m : ℕ) (words values : RowMajorMatrix A)
    → length (rows words) ≡ 2 ^ h → m ≤ h → AreFirstValues m words values
    → length (rows values) ≡ 2 ^ m
length-first h m words values size small first =
    ap length first.entries
    ∙ length-bit_reversed m (take (2 ^ m) (rows words))
    (length-take-le (2 ^ m) (rows words)
    (rw size (pow-le-pow_right {n = 2} (omega arith) {i = m} {j = h} small)))

module _ {A : Type 0} (F : FieldOps A) (L : IsField F) (top : ℕ) (w : ℕ → A)
    (W : AreRoots F top w) where
  infixl 70 ◌⊗◌
  open F use {zero as 𝟘, mul as ◌⊗◌}

  -- the first rows of words, in natural order, are the values on the smaller coset
  pub first_values_are : (shift : A) (k m j : ℕ) (c : List A) → m ≤ k → k ≤ top
      → (words values : RowMajorMatrix A) → length (rows words) ≡ 2 ^ k
      → rows values ≡ bit_reversed m (take (2 ^ m) (rows words))
      → column F words j ≡ coset_word F w shift k c
      → column F values j ≡ map (λ x. val F c x) (coset_points F (w m) shift m)
  unfolding pt
  first_values_are shift k m j c small b words values size first word =
      let entry = λ (row : List A). get_or row j 𝟘 in
      let fits : 2 ^ m ≤ length (rows words) = rw size
      (pow-le-pow_right {n = 2} (omega arith) {i = m} {j = k} small) in
      let all : k ≡ m + (k - m) = omega (arith, small) in
      ap (λ rs. map entry rs) first
      ∙ reversed_entries entry m (take (2 ^ m) (rows words))
      (λ i. val F c (shift ⊗ pt F w i m))
      (length-take-le (2 ^ m) (rows words) fits)
      (sym (take-map entry (2 ^ m) (rows words))
      ∙ ap (λ ys. take (2 ^ m) ys) (word ∙ ap (λ n. coset_word F w shift n c) all)
      ∙ coset_word-restrict F L top w W shift m (k - m) c (omega (arith, b, all)))
      ∙ tabulate-equal (2 ^ m) (λ i. val F c (shift ⊗ pt F w (rev m i) m))
      (λ i. val F c (coset_point F (w m) shift i))
      (λ i l. ap (λ n. val F c (shift ⊗ pow F (w m) n)) (rev-rev m i l))
      ∙ sym (map-tabulate (λ x. val F c x) (2 ^ m) (coset_point F (w m) shift))

  -- the polynomial with these values has the values of each other one of no higher degree
  pub recovered_value : (shift : A) → shift ≢ 𝟘 → (m : ℕ) → m ≤ top → (ys b c : List A)
      → Interpolates F (coset_points F (w m) shift m) ys b → length c ≤ 2 ^ m
      → ys ≡ map (λ x. val F c x) (coset_points F (w m) shift m)
      → (x : A) → val F b x ≡ val F c x
  recovered_value shift nonzero m within ys b c known short e x =
      let points = coset_points F (w m) shift m in
      let count : length points ≡ 2 ^ m = length-tabulate (2 ^ m) (coset_point F (w m) shift) in
      let padded : List A = c ++ replicate (2 ^ m - length c) 𝟘 in
      let same : length b ≡ length padded =
      known.count ∙ count ∙ sym (length-append c (replicate (2 ^ m - length c) 𝟘)
      ∙ ap (λ n. length c + n) (length-replicate (2 ^ m - length c) 𝟘) ∙ omega (arith, short)) in
      let values : map (λ x. val F b x) points ≡ map (λ x. val F padded x) points =
      known.values ∙ e ∙ map-tabulate (λ x. val F c x) (2 ^ m) (coset_point F (w m) shift)
      ∙ tabulate-equal (2 ^ m) (λ i. val F c (coset_point F (w m) shift i))
      (λ i. val F padded (coset_point F (w m) shift i))
      (λ i _. sym (val-padded F L.ring c (2 ^ m - length c) (coset_point F (w m) shift i)))
      ∙ sym (map-tabulate (λ x. val F padded x) (2 ^ m) (coset_point F (w m) shift)) in
      ap (λ d. val F d x) (equal_from_values F L b padded points same (omega (arith, known.count))
      (distinct_from_AllPairs points (natural_distinct F L top w W m within shift nonzero))
      (map-each (λ x. val F b x) (λ x. val F padded x) points values))
      ∙ val-padded F L.ring c (2 ^ m - length c) x

  -- a point of a coset has the shift's power
  point_power : (shift : A) (m i : ℕ) → m ≤ top → i < 2 ^ m
      → pow F (coset_point F (w m) shift i) (2 ^ m) ≡ pow F shift (2 ^ m)
  unfolding pt
  point_power shift m i within l =
      ap (λ n. pow F (shift ⊗ pow F (w m) n) (2 ^ m)) (sym (rev-rev m i l))
      ∙ coset_power F L top w W shift (rev m i) m within

  module _ (shift : A) (log_blowup h : ℕ) (b : h ≤ top) (words : RowMajorMatrix A)
      (size : length (rows words) ≡ 2 ^ h) where
    -- on a coset of the words' shift the first rows
    pub first_are_committed : (m : ℕ) (values : RowMajorMatrix A) → m ≤ h
        → AreFirstValues m words values
        → AreCommittedValues F w shift log_blowup shift m words values
    first_are_committed m values small first = record {
      width = first.width;
      height = length-first h m words values size small first;
      columns = λ k j c count l short word.
          let same : h ≡ k = exponents_agree h k (sym size ∙ count) in
          first_values_are shift k m j c (omega (arith, small, same)) (omega (arith, b, same))
          words values count first.entries word;
    }

    -- and elsewhere the transform of coefficients that fit the domain
    pub transformed_are_committed : shift ≢ 𝟘 → (s : A) (d m : ℕ) → d ≡ h - log_blowup → m ≤ top
        → (values coefficients fitted answer : RowMajorMatrix A) → AreFirstValues d words values
        → AreEvaluations F (coset_points F (w d) shift d) coefficients values
        → AreFitted F s m coefficients fitted
        → AreEvaluations F (coset_points F (w m) s m) fitted answer
        → AreCommittedValues F w shift log_blowup s m words answer
    transformed_are_committed nonzero s d m is_degree within values coefficients fitted answer
        first known fits made = record {
          width = made.width ∙ fits.width ∙ sym known.width ∙ first.width;
          height = made.height ∙ fits.height;
          columns = λ k j c count l short word.
              let same : h ≡ k = exponents_agree h k (sym size ∙ count) in
              let few : d ≤ h = omega (arith, is_degree) in
              let narrow : j < matrix_width coefficients =
              omega (arith, l, known.width, first.width) in
              let inside : j < matrix_width fitted = omega (arith, narrow, fits.width) in
              let bound : length (rows words) / 2 ^ log_blowup ≤ 2 ^ d =
              rw (size, is_degree) (degree_within h log_blowup) in
              let fewer : length c ≤ 2 ^ d = omega (arith, short, bound) in
              let value : (x : A) → val F (column F coefficients j) x ≡ val F c x =
              recovered_value shift nonzero d (omega (arith, few, b)) (column F values j)
              (column F coefficients j) c (known.columns j narrow) fewer
              (first_values_are shift k d j c (omega (arith, few, same)) (omega (arith, b, same))
              words values count first.entries word) in
              sym (made.columns j inside).values
              ∙ map-tabulate (λ x. val F (column F fitted j) x) (2 ^ m) (coset_point F (w m) s)
              ∙ tabulate-equal (2 ^ m) (λ i. val F (column F fitted j) (coset_point F (w m) s i))
              (λ i. val F c (coset_point F (w m) s i))
              (λ i below.
              fits.values j (coset_point F (w m) s i) narrow (point_power s m i within below)
              ∙ value (coset_point F (w m) s i))
              ∙ sym (map-tabulate (λ x. val F c x) (2 ^ m) (coset_point F (w m) s));
        }
