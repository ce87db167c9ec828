-- What extensions of masked and of padded matrices have of the matrices themselves.
use Rattle.std.proofs.Common.{◌≡◌, ◌≢◌, ℕ, zero, suc, ◌+◌, ◌-◌, ◌*◌, ◌^◌, ◌<◌, List, [], ◌∷◌, ◌++◌}
use Rattle.std.proofs.Common.{length, map, take, get_or, replicate, refl, sym, ap, ◌∙◌, arith}
use Rattle.std.proofs.lemmas.List.{length-map, length-take-le, map-append, take_at, length-replicate}
use Rattle.algebra.specs.Field.{IsField, IsHomomorphism}
use Rattle.algebra.specs.Polynomial.{val, tabulate}
use Rattle.algebra.specs.TwoAdic.{AreRoots}
use Rattle.algebra.specs.Interpolation.{Interpolates}
use Rattle.algebra.proofs.Lists.{length-tabulate, map-tabulate, tabulate-equal, tabulate-get_or}
use Rattle.algebra.proofs.Lists.{distinct_from_AllPairs}
use Rattle.algebra.proofs.Interpolation.{interpolant_interpolates}
use Rattle.algebra.proofs.Values.{homomorphism-val}
use Rattle.rand_core.specs.Stream.{Stream}
use Rattle.p3_field_core.specs.Coset.{coset_point, coset_points}
use Rattle.p3_field_core.proofs.Cosets.{natural_distinct}
use Rattle.p3_matrix.specs.declared.dense.RowMajorMatrix.{RowMajorMatrix}
use Rattle.p3_matrix.specs.Matrix.{rows, matrix_width}
use Rattle.p3_matrix.specs.Words.{past, randoms}
use Rattle.p3_matrix.proofs.Widths.{row_width}
use Rattle.p3_dft.specs.Evaluations.{column}
use Rattle.p3_fri_extensions.specs.Extension.{FitsDomain, IsLowDegreeExtension, polynomial_on}
use Rattle.p3_fri_relation.specs.Setting.{Fields}
use Rattle.p3_fri_openings.specs.Committed.{committed_values}
use Rattle.p3_fri_hiding_openings.proofs.Committed.{extends}
use Rattle.p3_fri_masks.specs.Masked.{IsMasked}
use Rattle.p3_fri_masks.specs.Padded.{IsPadded}
use Rattle.p3_fri_masks.proofs.KeptRows.{length-masked_rows, length-padded_rows, masks_between, zeros_between}
use Rattle.p3_fri_masks.proofs.KeptValues.{value_at}
use Rattle.p3_fri_hiding_openings.specs.Shown.{shown_in}
use Rattle.p3_fri_hiding.specs.Trace.{FitsMasked, HasTrace, HasZerosBetween}

map-replicate : {A B : Type 0} (f : A → B) (n : ℕ) (x : A) → map f (replicate n x) ≡ replicate n (f x)
map-replicate f zero x = refl
map-replicate f (suc n) x = ap (λ ys. f x ∷ ys) (map-replicate f n x)

-- a masked and a padded matrix are twice as high
pub masked_fits : {F : Type 0} (from_word : ℕ → F) (r top b k : ℕ) (values masked : RowMajorMatrix F) (s : Stream)
    → FitsMasked top b k values → IsMasked from_word r values s masked → FitsDomain top b k masked
masked_fits from_word r top b k values masked s fits is = record {
  height = ap length is.entries ∙ length-masked_rows from_word r (matrix_width values) (rows values) s ∙ fits.twice;
  within = fits.within;
}

pub padded_fits : {F : Type 0} (none : F) (top b k : ℕ) (values padded : RowMajorMatrix F)
    → FitsMasked top b k values → IsPadded none values padded → FitsDomain top b k padded
padded_fits none top b k values padded fits is = record {
  height = ap length is.entries ∙ length-padded_rows none (matrix_width values) (rows values) ∙ fits.twice;
  within = fits.within;
}

module _ {F E : Type 0} (f : Fields F E) (L : IsField f.base) (M : IsField f.ext)
    (H : IsHomomorphism f.base f.ext f.lift) (W : AreRoots f.base f.two_adicity f.root)
    (nonzero : f.shift ≢ f.base.zero) (b : ℕ) where
  -- of a matrix that was extended from the coset of the shift `s` and of `2^k` points
  module _ (s : F) (off_zero : s ≢ f.base.zero) (k : ℕ) (wide matrix : RowMajorMatrix F)
      (fits : FitsDomain f.two_adicity b k wide)
      (extended : IsLowDegreeExtension f.base f.root f.shift b s k wide matrix) where
    abbrev point : ℕ → F
    point n = coset_point f.base (f.root k) s n

    abbrev polynomial : ℕ → List F
    polynomial j = polynomial_on f.base f.root s k (column f.base wide j)

    column_length : (j : ℕ) → length (column f.base wide j) ≡ length (rows wide)
    column_length j = length-map (rows wide) (λ entries. get_or entries j f.base.zero)

    interpolates : (j : ℕ)
        → Interpolates f.base (coset_points f.base (f.root k) s k) (column f.base wide j) (polynomial j)
    interpolates j = interpolant_interpolates f.base L (coset_points f.base (f.root k) s k)
        (column f.base wide j)
        (length-tabulate (2 ^ k) (coset_point f.base (f.root k) s) ∙ sym fits.height
        ∙ sym (column_length j))
        (distinct_from_AllPairs (coset_points f.base (f.root k) s k)
        (natural_distinct f.base L f.two_adicity f.root W k (omega (arith, fits.within)) s off_zero))

    -- at the points of the domain the committed polynomials have the rows of the matrix
    pub row_held : (n : ℕ) → n < 2 ^ k
        → committed_values f b matrix (f.lift (point n)) ≡ map f.lift (get_or (rows wide) n [])
    row_held n l =
        (extends f L W nonzero b s off_zero k wide matrix fits extended).values (f.lift (point n))
        ∙ map-tabulate (λ c. val f.ext (map f.lift c) (f.lift (point n))) (matrix_width wide) polynomial
        ∙ tabulate-equal (matrix_width wide)
        (λ j. val f.ext (map f.lift (polynomial j)) (f.lift (point n)))
        (λ j. f.lift (get_or (get_or (rows wide) n []) j f.base.zero))
        (λ j inside. sym (homomorphism-val f.base f.ext f.lift L.ring M.ring H (polynomial j) (point n))
        ∙ ap f.lift (value_at f.base L f.two_adicity f.root W wide j (polynomial j) s k n l fits.height
        (interpolates j).values))
        ∙ sym (map-tabulate f.lift (matrix_width wide) (λ j. get_or (get_or (rows wide) n []) j f.base.zero))
        ∙ ap (map f.lift) (tabulate-get_or (matrix_width wide) (get_or (rows wide) n []) f.base.zero
        (row_width wide n (omega (arith, l, fits.height))))

    pub held_width : (z : E) → length (committed_values f b matrix z) ≡ matrix_width wide
    held_width z =
        ap length ((extends f L W nonzero b s off_zero k wide matrix fits extended).values z)
        ∙ length-map (tabulate (matrix_width wide) polynomial) (λ c. val f.ext (map f.lift c) z)
        ∙ length-tabulate (matrix_width wide) polynomial

    -- what is shown beside columns that hide
    module _ (r width : ℕ) (is_wide : matrix_width wide ≡ width + r) where
      shown_width : (z : E) → length (committed_values f b matrix z) - r ≡ width
      shown_width z = omega (arith, is_wide, held_width z)

      pub shown_columns : (z : E) → length ((shown_in f b r matrix).values_at z) ≡ width
      shown_columns z =
          ap (λ n. length (take n (committed_values f b matrix z))) (shown_width z)
          ∙ length-take-le width (committed_values f b matrix z) (omega (arith, held_width z, is_wide))

      pub shown_row : (n : ℕ) (row others : List F) → n < 2 ^ k → get_or (rows wide) n [] ≡ row ++ others
          → length row ≡ width
          → (shown_in f b r matrix).values_at (f.lift (point n)) ≡ map f.lift row
      shown_row n row others l is long =
          ap (λ m. take m (committed_values f b matrix (f.lift (point n)))) (shown_width (f.lift (point n)))
          ∙ ap (take width) (row_held n l ∙ ap (map f.lift) is ∙ map-append f.lift row others)
          ∙ take_at (map f.lift row) (map f.lift others) width (length-map row f.lift ∙ long)

  module _ (s : F) (off_zero : s ≢ f.base.zero) (k : ℕ) (values wider matrix : RowMajorMatrix F)
      (fits : FitsMasked f.two_adicity b k values) where
    pub masked_traced : (from_word : ℕ → F) (r : ℕ) (words : Stream) (is : IsMasked from_word r values words wider)
        → IsLowDegreeExtension f.base f.root f.shift b s k wider matrix
        → HasTrace f s k values (shown_in f b r matrix)
    masked_traced from_word r words is extended =
        let wide = masked_fits from_word r f.two_adicity b k values wider words fits is in
        let between = masks_between from_word r (matrix_width values) (rows values) words in
        record {
          size = (extends f L W nonzero b s off_zero k wider matrix wide extended).size;
          columns = shown_columns s off_zero k wider matrix wide extended r (matrix_width values) is.width;
          trace = λ i l. shown_row s off_zero k wider matrix wide extended r (matrix_width values) is.width (2 * i)
              (get_or (rows values) i []) (randoms from_word r (past (i * (matrix_width values + 2 * r)) words))
              (omega (arith, l, fits.twice))
              (ap (λ rs. get_or rs (2 * i) []) is.entries ∙ between.even i l)
              (row_width values i l);
        }

    module _ (is : IsPadded f.base.zero values wider)
        (extended : IsLowDegreeExtension f.base f.root f.shift b s k wider matrix) where
      no_more : matrix_width wider ≡ matrix_width values + 0
      no_more = omega (arith, is.width)

      at_row : (n : ℕ) (row : List F) → n < 2 ^ k → get_or (rows wider) n [] ≡ row → length row ≡ matrix_width values
          → (shown_in f b 0 matrix).values_at (f.lift (coset_point f.base (f.root k) s n)) ≡ map f.lift row
      at_row n row l e long =
          shown_row s off_zero k wider matrix (padded_fits f.base.zero f.two_adicity b k values wider fits is) extended
          0 (matrix_width values) no_more n row [] l (e ∙ sym (append_none row)) long
        where
          append_none : (xs : List F) → xs ++ [] ≡ xs
          append_none [] = refl
          append_none (x ∷ xs) = ap (λ ys. x ∷ ys) (append_none xs)

      pub padded_traced : HasTrace f s k values (shown_in f b 0 matrix)
      padded_traced =
          let wide = padded_fits f.base.zero f.two_adicity b k values wider fits is in
          let between = zeros_between f.base.zero (matrix_width values) (rows values) in
          record {
            size = (extends f L W nonzero b s off_zero k wider matrix wide extended).size;
            columns = shown_columns s off_zero k wider matrix wide extended 0 (matrix_width values) no_more;
            trace = λ i l. at_row (2 * i) (get_or (rows values) i []) (omega (arith, l, fits.twice))
                (ap (λ rs. get_or rs (2 * i) []) is.entries ∙ between.even i l) (row_width values i l);
          }

      pub zeros_traced : HasZerosBetween f s k values (shown_in f b 0 matrix)
      zeros_traced i l =
          let between = zeros_between f.base.zero (matrix_width values) (rows values) in
          at_row (2 * i + 1) (replicate (matrix_width values) f.base.zero) (omega (arith, l, fits.twice))
          (ap (λ rs. get_or rs (2 * i + 1) []) is.entries ∙ between.odd i l)
          (length-replicate (matrix_width values) f.base.zero)
          ∙ map-replicate f.lift (matrix_width values) f.base.zero
          ∙ ap (replicate (matrix_width values)) H.zero
