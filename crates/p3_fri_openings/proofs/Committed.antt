-- The committed polynomials are one for each column and the only ones, and their values are
-- barycentric sums.
use Rattle.std.proofs.Common.{◌≡◌, ◌≢◌, ◌≤◌, ◌<◌, ℕ, ◌+◌, ◌/◌, ◌^◌, List, length, map, take, get_or, sym, ap, ap₂, ◌∙◌, arith}
use Rattle.std.proofs.lemmas.List.{get_or-take, length-map, length-take-le}
use Rattle.std.proofs.Math.Nat.{pow-le-pow_right}
use Rattle.algebra.specs.Field.{IsField, IsHomomorphism, sub}
use Rattle.algebra.specs.Polynomial.{val, tabulate, sum_below}
use Rattle.algebra.specs.TwoAdic.{AreRoots}
use Rattle.algebra.specs.Cosets.{coset_pt, IsOffCoset}
use Rattle.algebra.specs.Words.{coset_word, IsCosetWord}
use Rattle.algebra.specs.Interpolation.{interpolant}
use Rattle.algebra.specs.Barycentric.{barycentric_weight, barycentric_factor}
use Rattle.algebra.proofs.Lists.{length-tabulate}
use Rattle.algebra.proofs.PolynomialProduct.{sum_below-equal}
use Rattle.algebra.proofs.Words.{coset_words}
use Rattle.algebra.proofs.PointTest.{off_smaller_coset}
use Rattle.algebra.proofs.Barycentric.{barycentric_value}
use Rattle.p3_matrix.specs.declared.dense.RowMajorMatrix.{RowMajorMatrix}
use Rattle.p3_matrix.specs.Matrix.{matrix_width}
use Rattle.p3_dft.specs.Evaluations.{column}
use Rattle.p3_fri_relation.specs.Setting.{Fields}
use Rattle.p3_fri_openings.specs.Committed.{coset_of, committed, committed_column, committed_values}
use Rattle.p3_fri_openings.proofs.Log2.{log2-pow, pow-divided}

-- at a point there are as many values as the matrix has columns
pub width_of_values : {F E : Type 0} (f : Fields F E) (log_blowup : ℕ) (matrix : RowMajorMatrix F)
    (z : E) → length (committed_values f log_blowup matrix z) ≡ matrix_width matrix
width_of_values f log_blowup matrix z =
    length-map (committed f log_blowup matrix) (λ c. val f.ext (map f.lift c) z)
    ∙ length-tabulate (matrix_width matrix)
    (λ j. committed_column f log_blowup (column f.base matrix j))

-- the points of a coset by its log size
pub coset_of_pow : {F E : Type 0} (f : Fields F E) (k : ℕ)
    → coset_of f (2 ^ k) ≡ tabulate (2 ^ k) (λ i. coset_pt f.base f.root f.shift i k)
coset_of_pow f k = ap (λ m. tabulate (2 ^ k) (λ i. coset_pt f.base f.root f.shift i m)) (log2-pow k)

module _ {F E : Type 0} (f : Fields F E) (L : IsField f.base) (W : AreRoots f.base f.two_adicity f.root)
    (nonzero : f.shift ≢ f.base.zero) where
  -- the column's polynomial, by the first `2^k` entries
  column_is : (b k : ℕ) (ys : List F) → length ys ≡ 2 ^ (k + b)
      → committed_column f b ys
      ≡ interpolant f.base (tabulate (2 ^ k) (λ i. coset_pt f.base f.root f.shift i k)) (take (2 ^ k) ys)
  column_is b k ys size =
      ap (λ n. interpolant f.base (coset_of f n) (take n ys)) (ap (λ n. n / 2 ^ b) size ∙ pow-divided k b)
      ∙ ap (λ xs. interpolant f.base xs (take (2 ^ k) ys)) (coset_of_pow f k)

  -- it is that of a word of low degree
  pub committed_is : (b k : ℕ) (ys : List F) → k + b ≤ f.two_adicity
      → (y : IsCosetWord f.base f.root f.shift (k + b) (2 ^ k) ys)
      → committed_column f b ys ≡ y.polynomial
  committed_is b k ys within y =
      let words = coset_words f.base L f.two_adicity f.root W f.shift nonzero k b within in
      column_is b k ys (ap length y.values ∙ length-tabulate (2 ^ (k + b)) (λ i. val f.base y.polynomial (coset_pt f.base f.root f.shift i (k + b))))
      ∙ ap (λ zs. interpolant f.base (tabulate (2 ^ k) (λ i. coset_pt f.base f.root f.shift i k)) zs)
      (ap (λ zs. take (2 ^ k) zs) y.values ∙ words.restricted y.polynomial)
      ∙ words.coefficients y.polynomial y.degree

  -- its values over the coset of `2^k` points are the first entries
  first_entries : (b k : ℕ) (ys : List F) → k + b ≤ f.two_adicity → length ys ≡ 2 ^ (k + b)
      → (length (committed_column f b ys) ≡ 2 ^ k)
      × (take (2 ^ k) ys ≡ coset_word f.base f.root f.shift k (committed_column f b ys))
  first_entries b k ys within size =
      let words = coset_words f.base L f.two_adicity f.root W f.shift nonzero k b within in
      let y = words.interpolated (take (2 ^ k) ys) (first_length b k ys size) in
      let same : committed_column f b ys ≡ y.polynomial =
      column_is b k ys size
      ∙ ap (λ zs. interpolant f.base (tabulate (2 ^ k) (λ i. coset_pt f.base f.root f.shift i k)) zs) y.values
      ∙ words.coefficients y.polynomial y.degree in
      (ap length same ∙ y.degree, y.values ∙ ap (λ c. coset_word f.base f.root f.shift k c) (sym same))
    where
      first_length : (b k : ℕ) (ys : List F) → length ys ≡ 2 ^ (k + b) → length (take (2 ^ k) ys) ≡ 2 ^ k
      first_length b k ys size =
          let more : 2 ^ k ≤ 2 ^ (k + b) =
          pow-le-pow_right {n = 2} (omega arith) {i = k} {j = k + b} (omega arith) in
          length-take-le (2 ^ k) ys (omega (arith, more, size))

  module _ (M : IsField f.ext) (H : IsHomomorphism f.base f.ext f.lift) where
    -- its value at a point off the coset, from the inverse differences and the points
    pub column_value : (b k : ℕ) (ys points : List F) (inverses : List E) (z : E)
        → k + b ≤ f.two_adicity → length ys ≡ 2 ^ (k + b)
        → IsOffCoset f.base f.lift f.root f.shift (k + b) z
        → ((i : ℕ) → i < 2 ^ k → get_or points i f.base.zero ≡ coset_pt f.base f.root f.shift i k)
        → ((i : ℕ) → i < 2 ^ k → get_or inverses i f.ext.zero
        ≡ f.ext.inv (sub f.ext z (f.lift (coset_pt f.base f.root f.shift i k))))
        → f.ext.mul (barycentric_factor f.base f.ext f.lift f.root f.shift k z)
        (sum_below f.ext (2 ^ k) (λ i. f.ext.mul
        (f.ext.mul (get_or inverses i f.ext.zero) (f.lift (get_or points i f.base.zero)))
        (f.lift (get_or ys i f.base.zero))))
        ≡ val f.ext (map f.lift (committed_column f b ys)) z
    column_value b k ys points inverses z within size off xs ds =
        ap (λ s. f.ext.mul (barycentric_factor f.base f.ext f.lift f.root f.shift k z) s)
        (sum_below-equal f.ext (2 ^ k)
        (λ i. f.ext.mul (f.ext.mul (get_or inverses i f.ext.zero) (f.lift (get_or points i f.base.zero))) (f.lift (get_or ys i f.base.zero)))
        (λ i. f.ext.mul (barycentric_weight f.base f.ext f.lift f.root f.shift k z i)
        (f.lift (get_or (coset_word f.base f.root f.shift (k + 0) c) i f.base.zero)))
        (λ i l. ap₂ (λ u v. f.ext.mul u (f.lift v))
        (ap₂ (λ d x. f.ext.mul d (f.lift x)) (ds i l) (xs i l)
        ∙ M.ring.mul_comm (f.ext.inv (sub f.ext z (f.lift (coset_pt f.base f.root f.shift i k)))) (f.lift (coset_pt f.base f.root f.shift i k)))
        (entry i l)))
        ∙ barycentric_value f.base f.ext f.lift L M H f.two_adicity f.root W f.shift nonzero k 0
        (omega (arith, within)) c (omega (arith, known.0)) z
        (off_smaller_coset f.base f.ext f.lift L M H f.two_adicity f.root W f.shift k (k + b) z (omega arith) within off)
      where
        c : List F
        c = committed_column f b ys

        known : (length c ≡ 2 ^ k) × (take (2 ^ k) ys ≡ coset_word f.base f.root f.shift k c)
        known = first_entries b k ys within size

        zero_more : (k : ℕ) → k ≡ k + 0
        zero_more k = omega arith

        entry : (i : ℕ) → i < 2 ^ k
            → get_or ys i f.base.zero ≡ get_or (coset_word f.base f.root f.shift (k + 0) c) i f.base.zero
        entry i l =
            sym (get_or-take (2 ^ k) ys i f.base.zero l)
            ∙ ap (λ zs. get_or zs i f.base.zero) known.1
            ∙ ap (λ n. get_or (coset_word f.base f.root f.shift n c) i f.base.zero) (zero_more k)
