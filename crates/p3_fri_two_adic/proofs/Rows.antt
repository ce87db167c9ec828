-- What is held of a matrix that was extended has its rows at the points of its domain.
use Rattle.std.proofs.Common.{◌≡◌, ◌≢◌, ℕ, ◌*◌, ◌^◌, ◌<◌, List, [], length, map, All, get_or, sym, ap}
use Rattle.std.proofs.Common.{◌∙◌, arith}
use Rattle.std.specs.List.{AllZip}
use Rattle.std.proofs.lemmas.List.{get_or-map}
use Rattle.algebra.specs.Field.{IsField, IsHomomorphism}
use Rattle.algebra.specs.Polynomial.{val, tabulate}
use Rattle.algebra.specs.Quotients.{values_at}
use Rattle.algebra.specs.TwoAdic.{AreRoots}
use Rattle.algebra.proofs.Lists.{get_or-tabulate, map-tabulate, tabulate-equal, tabulate-get_or}
use Rattle.algebra.proofs.Lists.{each_from_All}
use Rattle.algebra.proofs.Values.{homomorphism-val}
use Rattle.p3_field_core.specs.Coset.{coset_point, coset_points}
use Rattle.p3_matrix.specs.declared.dense.RowMajorMatrix.{RowMajorMatrix}
use Rattle.p3_matrix.specs.Matrix.{rows, matrix_width}
use Rattle.p3_matrix.proofs.Widths.{row_width}
use Rattle.p3_dft.specs.Evaluations.{column}
use Rattle.p3_fri_extensions.specs.Extension.{FitsDomain, IsLowDegreeExtension, polynomial_on}
use Rattle.p3_fri_relation.specs.Setting.{Fields}
use Rattle.p3_fri_openings.specs.Held.{held_in}
use Rattle.p3_fri_two_adic.specs.Held.{Extends}
use Rattle.p3_fri_two_adic.proofs.Committed.{interpolates, extends, each_mapped}

module _ {F E : Type 0} (f : Fields F E) (L : IsField f.base) (M : IsField f.ext)
    (H : IsHomomorphism f.base f.ext f.lift) (W : AreRoots f.base f.two_adicity f.root)
    (nonzero : f.shift ≢ f.base.zero) (b : ℕ) where
  -- of a matrix that was extended from the coset of the shift `s` and of `2^k` points
  module _ (s : F) (off_zero : s ≢ f.base.zero) (k : ℕ) (values matrix : RowMajorMatrix F)
      (fits : FitsDomain f.two_adicity b k values)
      (extended : IsLowDegreeExtension f.base f.root f.shift b s k values matrix) where
    abbrev point : ℕ → F
    point i = coset_point f.base (f.root k) s i

    abbrev polynomial : ℕ → List F
    polynomial j = polynomial_on f.base f.root s k (column f.base values j)

    abbrev entry : (i j : ℕ) → F
    entry i j = get_or (get_or (rows values) i []) j f.base.zero

    value_there : (i j : ℕ) → i < 2 ^ k → val f.base (polynomial j) (point i) ≡ entry i j
    value_there i j below =
        sym (get_or-tabulate (2 ^ k) (λ n. val f.base (polynomial j) (point n)) i f.base.zero below)
        ∙ ap (λ ys. get_or ys i f.base.zero)
        (sym (map-tabulate (λ x. val f.base (polynomial j) x) (2 ^ k) point)
        ∙ (interpolates f L W nonzero b s off_zero k values matrix fits extended j).values)
        ∙ get_or-map (λ entries. get_or entries j f.base.zero) (rows values) i [] f.base.zero
        (omega (arith, below, fits.height))

    -- the values at a point of the domain are the row there
    row_there : (i : ℕ) → i < 2 ^ k
        → values_at f.base f.ext f.lift (tabulate (matrix_width values) polynomial)
        (f.lift (point i)) ≡ map f.lift (get_or (rows values) i [])
    row_there i below =
        map-tabulate (λ c. val f.ext (map f.lift c) (f.lift (point i))) (matrix_width values)
        polynomial
        ∙ tabulate-equal (matrix_width values)
        (λ j. val f.ext (map f.lift (polynomial j)) (f.lift (point i))) (λ j. f.lift (entry i j))
        (λ j inside. sym (homomorphism-val f.base f.ext f.lift L.ring M.ring H (polynomial j)
        (point i)) ∙ ap f.lift (value_there i j below))
        ∙ sym (map-tabulate f.lift (matrix_width values) (λ j. entry i j))
        ∙ ap (λ ys. map f.lift ys) (tabulate-get_or (matrix_width values)
        (get_or (rows values) i []) f.base.zero
        (row_width values i (omega (arith, below, fits.height))))

    pub row_held : (i : ℕ) → i < 2 ^ k
        → (held_in f b matrix).values_at (f.lift (point i)) ≡ map f.lift (get_or (rows values) i [])
    row_held i below =
        (extends f L W nonzero b s off_zero k values matrix fits extended).values (f.lift (point i))
        ∙ row_there i below

    pub is_extended : Extends f s k values (held_in f b matrix)
    is_extended = record {
      polynomials = extends f L W nonzero b s off_zero k values matrix fits extended;
      have_rows = λ i below.
          ap (λ n. (held_in f b matrix).values_at (f.lift (point n))) (one_apart i)
          ∙ row_held i (omega (arith, below, fits.height));
    }
      where
        one_apart : (i : ℕ) → 1 * i ≡ i
        one_apart i = omega arith

-- of a batch of matrices, on domains with these shifts and sizes
module _ {F E Domain : Type 0} (f : Fields F E) (L : IsField f.base) (M : IsField f.ext)
    (H : IsHomomorphism f.base f.ext f.lift) (W : AreRoots f.base f.two_adicity f.root)
    (nonzero : f.shift ≢ f.base.zero) (b : ℕ) (shift : Domain → F) (log_size : Domain → ℕ)
    (off_zero : (d : Domain) → shift d ≢ f.base.zero) (matrices : List (RowMajorMatrix F))
    (evaluations : List (Domain × RowMajorMatrix F))
    (fit : All (λ e. FitsDomain f.two_adicity b (log_size e.0) e.1) evaluations)
    (words : AllZip (λ matrix e. IsLowDegreeExtension f.base f.root f.shift b (shift e.0)
    (log_size e.0) e.1 matrix) matrices evaluations) where
  abbrev Fits : Domain × RowMajorMatrix F → Type 0
  Fits e = FitsDomain f.two_adicity b (log_size e.0) e.1

  abbrev IsWordOf : RowMajorMatrix F → Domain × RowMajorMatrix F → Type 0
  IsWordOf matrix e = IsLowDegreeExtension f.base f.root f.shift b (shift e.0)
      (log_size e.0) e.1 matrix

  pub all_extend : AllZip (λ m e. Extends f (shift e.0) (log_size e.0) e.1 m) (map
      (held_in f b) matrices) evaluations
  all_extend = each_mapped IsWordOf Fits (λ m e. Extends f (shift e.0) (log_size e.0) e.1 m)
      (held_in f b)
      (λ m e h q. is_extended f L M H W nonzero b (shift e.0) (off_zero e.0) (log_size e.0) e.1 m
      q h)
      matrices evaluations words (each_from_All Fits evaluations fit)
