-- Scaled sums over the first rows are the values of the committed polynomials.
use Rattle.std.proofs.Common.{◌≡◌, ◌≢◌, ◌≤◌, ◌<◌, ℕ, ◌+◌, ◌/◌, ◌^◌, List, [], length, map, take, get_or, sym, ap, ◌∙◌, arith}
use Rattle.std.proofs.Math.ListN.{get_or-map}
use Rattle.std.proofs.Math.Nat.{pow-le-pow_right}
use Rattle.std.proofs.lemmas.List.{length-map, get_or-take, length-take}
use Rattle.std.proofs.Math.Nat.{div-eq_of_lt}
use Rattle.std.proofs.Math.Pow.{pow-lt}
use Rattle.algebra.specs.Interpolation.{interpolant}
use Rattle.algebra.proofs.Values.{val-nil}
use Rattle.algebra.specs.Field.{IsField, IsRing, IsHomomorphism, sub}
use Rattle.algebra.specs.Polynomial.{val, tabulate, sum_below}
use Rattle.algebra.specs.TwoAdic.{AreRoots}
use Rattle.algebra.specs.Cosets.{coset_pt, IsOffCoset}
use Rattle.algebra.specs.Barycentric.{barycentric_factor}
use Rattle.algebra.proofs.RingLaws.{zero_add}
use Rattle.algebra.proofs.Lists.{get_or-tabulate, length-tabulate, tabulate-equal, tabulate-get_or, map-tabulate}
use Rattle.algebra.proofs.PolynomialProduct.{sum_below-equal}
use Rattle.algebra.proofs.Words.{point-restrict}
use Rattle.p3_matrix.specs.declared.dense.RowMajorMatrix.{RowMajorMatrix}
use Rattle.p3_matrix.specs.Matrix.{rows, matrix_width}
use Rattle.p3_dft.specs.Evaluations.{column}
use Rattle.p3_fri_relation.specs.Setting.{Fields}
use Rattle.p3_fri_openings.specs.Log2.{log2}
use Rattle.p3_fri_openings.specs.Sums.{StartsWith, weighted_sum}
use Rattle.p3_fri_openings.specs.Committed.{coset_of, inverse_differences, committed_column, committed_values}
use Rattle.p3_fri_openings.proofs.Log2.{log2_is}
use Rattle.p3_fri_openings.proofs.Committed.{column_value}

pub starts_at : {X : Type 0} (xs start : List X) (i : ℕ) (d : X) → StartsWith xs start → i < length start
    → get_or xs i d ≡ get_or start i d
starts_at xs start i d h l = sym (get_or-take (length start) xs i d l) ∙ ap (λ ys. get_or ys i d) h

pub starts_long : {X : Type 0} (xs start : List X) → StartsWith xs start → length start ≤ length xs
starts_long xs start h = let e = sym (length-take (length start) xs) ∙ ap length h in omega (arith, e)

-- columns that are lower than the blowup have the polynomial without coefficients
module _ {F E : Type 0} (f : Fields F E) where
  none_is : (R : IsRing f.ext) (b : ℕ) (ys : List F) (z : E) → length ys / 2 ^ b ≡ 0
      → val f.ext (map f.lift (committed_column f b ys)) z ≡ f.ext.zero
  none_is R b ys z e =
      ap (λ n. val f.ext (map f.lift (interpolant f.base (coset_of f n) (take n ys))) z) e
      ∙ val-nil f.ext R z

  pub values_of_none : (R : IsRing f.ext) (b h : ℕ) (matrix : RowMajorMatrix F) (z : E)
      → length (rows matrix) ≡ 2 ^ h → h < b
      → tabulate (matrix_width matrix) (λ _. f.ext.zero) ≡ committed_values f b matrix z
  values_of_none R b h matrix z size low =
      tabulate-equal (matrix_width matrix) (λ _. f.ext.zero)
      (λ j. val f.ext (map f.lift (committed_column f b (column f.base matrix j))) z)
      (λ j l. sym (none_is R b (column f.base matrix j) z
      (ap (λ n. n / 2 ^ b) (length-map (rows matrix) (λ entries. get_or entries j f.base.zero) ∙ size)
      ∙ div-eq_of_lt (pow-lt low))))
      ∙ sym (map-tabulate (λ c. val f.ext (map f.lift c) z) (matrix_width matrix)
      (λ j. committed_column f b (column f.base matrix j)))

module _ {F E : Type 0} (f : Fields F E) (L : IsField f.base) (W : AreRoots f.base f.two_adicity f.root)
    (nonzero : f.shift ≢ f.base.zero) where
  lower : (k b i : ℕ) → i < 2 ^ k → i < 2 ^ (k + b)
  lower k b i l =
      let more : 2 ^ k ≤ 2 ^ (k + b) =
      pow-le-pow_right {n = 2} (omega arith) {i = k} {j = k + b} (omega arith) in
      omega (arith, l, more)

  -- the first points of a coset are those of the smaller one
  coset_entry : (k b i : ℕ) (n : ℕ) → k + b ≤ f.two_adicity → n ≡ 2 ^ (k + b) → i < 2 ^ k
      → coset_pt f.base f.root f.shift i (log2 n) ≡ coset_pt f.base f.root f.shift i k
  coset_entry k b i n within size l =
      ap (λ m. coset_pt f.base f.root f.shift i m) (sym (log2_is n (k + b) (sym size)))
      ∙ ap (λ p. f.base.mul f.shift p) (point-restrict f.base L f.two_adicity f.root W i k b l within)

  pub point_at : (k b i n : ℕ) (points : List F) → k + b ≤ f.two_adicity → n ≡ 2 ^ (k + b)
      → StartsWith points (coset_of f n) → i < 2 ^ k
      → get_or points i f.base.zero ≡ coset_pt f.base f.root f.shift i k
  point_at k b i n points within size starts l =
      let below = lower k b i l in
      let long = length-tabulate n (λ i. coset_pt f.base f.root f.shift i (log2 n)) in
      starts_at points (coset_of f n) i f.base.zero starts (omega (arith, below, long, size))
      ∙ get_or-tabulate n (λ i. coset_pt f.base f.root f.shift i (log2 n)) i f.base.zero (omega (arith, below, size))
      ∙ coset_entry k b i n within size l

  pub inverse_at : (k b i n : ℕ) (z : E) (inverses : List E) → k + b ≤ f.two_adicity → n ≡ 2 ^ (k + b)
      → StartsWith inverses (inverse_differences f z n) → i < 2 ^ k
      → get_or inverses i f.ext.zero
      ≡ f.ext.inv (sub f.ext z (f.lift (coset_pt f.base f.root f.shift i k)))
  inverse_at k b i n z inverses within size starts l =
      let below = lower k b i l in
      let long = length-map (coset_of f n) (λ x. f.ext.inv (sub f.ext z (f.lift x)))
      ∙ length-tabulate n (λ i. coset_pt f.base f.root f.shift i (log2 n)) in
      starts_at inverses (inverse_differences f z n) i f.ext.zero starts (omega (arith, below, long, size))
      ∙ ap (λ ys. get_or ys i f.ext.zero) (map-tabulate (λ x. f.ext.inv (sub f.ext z (f.lift x))) n (λ i. coset_pt f.base f.root f.shift i (log2 n)))
      ∙ get_or-tabulate n (λ i. f.ext.inv (sub f.ext z (f.lift (coset_pt f.base f.root f.shift i (log2 n))))) i f.ext.zero (omega (arith, below, size))
      ∙ ap (λ x. f.ext.inv (sub f.ext z (f.lift x))) (coset_entry k b i n within size l)

  module _ (M : IsField f.ext) (H : IsHomomorphism f.base f.ext f.lift) (b k : ℕ)
      (matrix : RowMajorMatrix F) (within : k + b ≤ f.two_adicity)
      (size : length (rows matrix) ≡ 2 ^ (k + b)) (z : E)
      (off : IsOffCoset f.base f.lift f.root f.shift (k + b) z)
      (points : List F) (begin : StartsWith points (coset_of f (length (rows matrix))))
      (inverses : List E) (beside : StartsWith inverses (inverse_differences f z (length (rows matrix)))) where
    entry_is : (j i : ℕ)
        → get_or (get_or (rows matrix) i []) j f.base.zero ≡ get_or (column f.base matrix j) i f.base.zero
    entry_is j i = sym (get_or-map (λ entries. get_or entries j f.base.zero) (rows matrix) i [])

    sum_is : (j : ℕ) → weighted_sum f.base f.ext f.lift (2 ^ k) points inverses (rows matrix) j
        ≡ sum_below f.ext (2 ^ k) (λ i. f.ext.mul
        (f.ext.mul (get_or inverses i f.ext.zero) (f.lift (get_or points i f.base.zero)))
        (f.lift (get_or (column f.base matrix j) i f.base.zero)))
    sum_is j = sum_below-equal f.ext (2 ^ k) _ _ (λ i l. ap (λ v. f.ext.mul
        (f.ext.mul (get_or inverses i f.ext.zero) (f.lift (get_or points i f.base.zero))) (f.lift v)) (entry_is j i))

    value_is : (j : ℕ) → f.ext.mul (barycentric_factor f.base f.ext f.lift f.root f.shift k z)
        (f.ext.add f.ext.zero (weighted_sum f.base f.ext f.lift (2 ^ k) points inverses (rows matrix) j))
        ≡ val f.ext (map f.lift (committed_column f b (column f.base matrix j))) z
    value_is j =
        ap (λ s. f.ext.mul (barycentric_factor f.base f.ext f.lift f.root f.shift k z) s)
        (zero_add f.ext M.ring (weighted_sum f.base f.ext f.lift (2 ^ k) points inverses (rows matrix) j) ∙ sum_is j)
        ∙ column_value f L W nonzero M H b k (column f.base matrix j) points inverses z within
        (length-map (rows matrix) (λ entries. get_or entries j f.base.zero) ∙ size) off
        (λ i l. point_at k b i (length (rows matrix)) points within size begin l)
        (λ i l. inverse_at k b i (length (rows matrix)) z inverses within size beside l)

    pub values_are : (values : List E) → length values ≡ matrix_width matrix
        → ((j : ℕ) (d : E) → j < matrix_width matrix → get_or values j d
        ≡ f.ext.mul (barycentric_factor f.base f.ext f.lift f.root f.shift k z)
        (f.ext.add f.ext.zero (weighted_sum f.base f.ext f.lift (2 ^ k) points inverses (rows matrix) j)))
        → values ≡ committed_values f b matrix z
    values_are values long known =
        sym (tabulate-get_or (matrix_width matrix) values f.ext.zero long)
        ∙ tabulate-equal (matrix_width matrix) (λ j. get_or values j f.ext.zero)
        (λ j. val f.ext (map f.lift (committed_column f b (column f.base matrix j))) z)
        (λ j l. known j f.ext.zero l ∙ value_is j)
        ∙ sym (map-tabulate (λ c. val f.ext (map f.lift c) z) (matrix_width matrix)
        (λ j. committed_column f b (column f.base matrix j)))
