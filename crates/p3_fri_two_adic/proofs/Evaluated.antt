-- Values of committed polynomials on a domain, seen in the extension.
use Rattle.std.proofs.Common.{◌≡◌, ◌≢◌, ◌≤◌, ◌<◌, ℕ, ◌+◌, ◌/◌, ◌^◌, List, [], length, map}
use Rattle.std.proofs.Common.{get_or, sym, ap, subst, ◌∙◌, arith}
use Rattle.std.proofs.lemmas.List.{get_or-map}
use Rattle.algebra.specs.Field.{IsField, IsHomomorphism}
use Rattle.algebra.specs.Polynomial.{val, tabulate}
use Rattle.algebra.specs.TwoAdic.{AreRoots}
use Rattle.algebra.specs.Words.{coset_word}
use Rattle.algebra.proofs.Lists.{get_or-tabulate, map-tabulate, tabulate-equal, tabulate-get_or}
use Rattle.algebra.proofs.Values.{homomorphism-val}
use Rattle.p3_field_core.specs.Coset.{coset_point, coset_points}
use Rattle.p3_matrix.specs.declared.dense.RowMajorMatrix.{RowMajorMatrix}
use Rattle.p3_matrix.specs.Matrix.{rows, matrix_width}
use Rattle.p3_dft.specs.Evaluations.{column}
use Rattle.p3_fri_relation.specs.Setting.{Fields}
use Rattle.p3_fri_openings.specs.Committed.{committed_column, committed_values}
use Rattle.p3_dft.proofs.Sizes.{power_within}
use Rattle.p3_fri_openings.specs.Log2.{log2}
use Rattle.p3_fri_openings.specs.Rounds.{HasCoset}
use Rattle.p3_fri_openings.proofs.Committed.{committed_is}
use Rattle.p3_fri_openings.proofs.Log2.{log2-pow, pow-divided}
use Rattle.p3_fri_openings.specs.Held.{held_in, HoldsWords}
use Rattle.p3_fri_extensions.specs.Committed.{AreCommittedValues}
use Rattle.p3_stark_pcs.specs.Evaluations.{HoldsEvaluations, held_at}
use Rattle.p3_fri_two_adic.specs.Evaluations.{IsMatrixOf, HoldsWordsAt}
use Rattle.p3_matrix.proofs.Widths.{row_width}

-- where `values` holds, on the coset of `s` of `2^m` points, those of the polynomials of `matrix`
module _ {F E : Type 0} (f : Fields F E) (L : IsField f.base) (M : IsField f.ext)
    (H : IsHomomorphism f.base f.ext f.lift) (W : AreRoots f.base f.two_adicity f.root)
    (nonzero : f.shift ≢ f.base.zero) (b : ℕ) (matrix values : RowMajorMatrix F)
    (words : HoldsWords f b matrix) (within : words.log_size + b ≤ f.two_adicity) (s : F) (m : ℕ)
    (width : matrix_width values ≡ matrix_width matrix) (height : length (rows values) ≡ 2 ^ m)
    (columns : (j : ℕ) (c : List F) → j < matrix_width matrix → length c ≡ 2 ^ words.log_size
    → column f.base matrix j ≡ coset_word f.base f.root f.shift (words.log_size + b) c
    → column f.base values j
    ≡ map (λ x. val f.base c x) (coset_points f.base (f.root m) s m)) where
  abbrev point : ℕ → F
  point i = coset_point f.base (f.root m) s i

  abbrev polynomial : ℕ → List F
  polynomial j = committed_column f b (column f.base matrix j)

  values_in : (j : ℕ) → j < matrix_width matrix → column f.base values j
      ≡ map (λ x. val f.base (polynomial j) x) (coset_points f.base (f.root m) s m)
  values_in j l =
      let y = words.columns j l in
      columns j y.polynomial l y.degree y.values
      ∙ ap (λ c. map (λ x. val f.base c x) (coset_points f.base (f.root m) s m))
      (sym (committed_is f L W nonzero b words.log_size (column f.base matrix j) within y))

  entry : (i j : ℕ) → i < 2 ^ m → j < matrix_width matrix
      → get_or (get_or (rows values) i []) j f.base.zero ≡ val f.base (polynomial j) (point i)
  entry i j below l =
      sym (get_or-map (λ entries. get_or entries j f.base.zero) (rows values) i [] f.base.zero
      (omega (arith, below, height)))
      ∙ ap (λ ys. get_or ys i f.base.zero)
      (values_in j l ∙ map-tabulate (λ x. val f.base (polynomial j) x) (2 ^ m) point)
      ∙ get_or-tabulate (2 ^ m) (λ i. val f.base (polynomial j) (point i)) i f.base.zero below

  row : (i : ℕ) → i < 2 ^ m → get_or (rows values) i []
      ≡ tabulate (matrix_width matrix) (λ j. val f.base (polynomial j) (point i))
  row i below =
      sym (tabulate-get_or (matrix_width matrix) (get_or (rows values) i []) f.base.zero
      (row_width values i (omega (arith, below, height)) ∙ width))
      ∙ tabulate-equal (matrix_width matrix)
      (λ j. get_or (get_or (rows values) i []) j f.base.zero)
      (λ j. val f.base (polynomial j) (point i)) (λ j l. entry i j below l)

  pub values_held : (i : ℕ) → i < 2 ^ m → map f.lift (get_or (rows values) i [])
      ≡ committed_values f b matrix (f.lift (point i))
  values_held i below =
      ap (λ ys. map f.lift ys) (row i below)
      ∙ map-tabulate f.lift (matrix_width matrix) (λ j. val f.base (polynomial j) (point i))
      ∙ tabulate-equal (matrix_width matrix) (λ j. f.lift (val f.base (polynomial j) (point i)))
      (λ j. val f.ext (map f.lift (polynomial j)) (f.lift (point i)))
      (λ j l. homomorphism-val f.base f.ext f.lift L.ring M.ring H (polynomial j) (point i))
      ∙ sym (map-tabulate (λ c. val f.ext (map f.lift c) (f.lift (point i)))
      (matrix_width matrix) polynomial)

-- a matrix that the index names
module _ {F : Type 0} (two_adicity : ℕ) (matrices : List (RowMajorMatrix F)) (index : ℕ)
    (one : IsMatrixOf two_adicity matrices index) (matrix : RowMajorMatrix F)
    (is : matrix ≡ get_or matrices index matrix) where
  pub coset_at : HasCoset two_adicity matrix
  coset_at =
      subst (λ m. HasCoset two_adicity m) (sym is) (one.coset matrix)

  pub within_at : length (rows matrix) ≤ 2 ^ two_adicity
  within_at = power_within (length (rows matrix)) coset_at.power.0 two_adicity coset_at.power.1
      (subst (λ n. n ≤ two_adicity) (ap log2 coset_at.power.1 ∙ log2-pow coset_at.power.0)
      coset_at.within)

-- its values, of data that holds these matrices
module _ {F E : Type 0} (f : Fields F E) (L : IsField f.base) (M : IsField f.ext)
    (H : IsHomomorphism f.base f.ext f.lift) (W : AreRoots f.base f.two_adicity f.root)
    (nonzero : f.shift ≢ f.base.zero) (b : ℕ) (matrices : List (RowMajorMatrix F)) (index : ℕ)
    (one : IsMatrixOf f.two_adicity matrices index) where
  pub evaluated : (matrix values : RowMajorMatrix F) → matrix ≡ get_or matrices index matrix
      → HoldsWordsAt f b matrices index → (s : F) (m : ℕ)
      → AreCommittedValues f.base f.root f.shift b s m matrix values
      → HoldsEvaluations f.lift (λ i. f.lift (coset_point f.base (f.root m) s i)) (2 ^ m)
      (held_at (map (held_in f b) matrices) index).values_at values
  evaluated matrix values is words s m are =
      let here = subst (λ m. HoldsWords f b m) (sym is) (words matrix) in
      let stands = coset_at f.two_adicity matrices index one matrix is in
      let within = subst (λ n. n ≤ f.two_adicity)
      (ap log2 here.height ∙ log2-pow (here.log_size + b)) stands.within in
      let count = ap (λ n. n / 2 ^ b) here.height ∙ pow-divided here.log_size b in
      let held = get_or-map (held_in f b) matrices index matrix
      (record { size = 0; values_at = λ z. [] }) one.below ∙ ap (λ m. held_in f b m) (sym is) in
      record {
        height = are.height;
        value = λ i below.
            values_held f L M H W nonzero b matrix values here within s m are.width are.height
            (λ j c l degree word. are.columns (here.log_size + b) j c here.height l
            (subst (λ n. length c ≤ n) (sym count) (omega (arith, degree))) word)
            i below
            ∙ ap (λ h. h.values_at (f.lift (coset_point f.base (f.root m) s i))) (sym held);
      }
