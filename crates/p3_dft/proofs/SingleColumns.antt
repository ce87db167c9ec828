-- Rows of one entry: the column is the list.
use Rattle.std.proofs.Common.{◌≡◌, ℕ, ◌+◌, ◌*◌, ◌^◌, ◌<◌, ◌≤◌, List, length, get_or, map, sym, ap}
use Rattle.std.proofs.Common.{◌∙◌, arith}
use Rattle.algebra.specs.Field.{FieldOps, IsField, pow}
use Rattle.algebra.specs.Polynomial.{val}
use Rattle.algebra.specs.Interpolation.{Interpolates, interpolant}
use Rattle.algebra.specs.TwoAdic.{AreRoots}
use Rattle.algebra.proofs.RingLaws.{one_mul}
use Rattle.algebra.proofs.Lists.{length-tabulate, map-tabulate, tabulate-equal, tabulate-get_or}
use Rattle.p3_matrix.specs.declared.dense.RowMajorMatrix.{RowMajorMatrix}
use Rattle.p3_dft.specs.Evaluations.{subgroup_points, column, AreExtensions}
use Rattle.p3_dft.specs.Strided.{strided}
use Rattle.p3_dft.proofs.Columns.{Holds, column-strided}
use Rattle.p3_dft.proofs.Coefficients.{val-interpolant}

pub strided-one : {A : Type 0} (F : FieldOps A) (n : ℕ) (xs : List A) → length xs ≡ n → strided F 1 n xs 0 ≡ xs
strided-one F n xs e =
    tabulate-equal n (λ i. get_or xs (i * 1 + 0) F.zero) (λ i. get_or xs i F.zero) (λ i l. ap (λ m. get_or xs m F.zero) (omega arith))
    ∙ tabulate-get_or n xs F.zero e

module _ {A : Type 0} (F : FieldOps A) (L : IsField F) (top : ℕ) (w : ℕ → A) (W : AreRoots F top w) (k : ℕ) (b : k ≤ top) where
  -- coefficients whose polynomial is the interpolant
  pub interpolates_from_values : (one : A) (cs ys : List A) → one ≡ F.one → length cs ≡ 2 ^ k → length ys ≡ 2 ^ k
      → ((j : ℕ) (x : A) → j < 1 → val F (strided F 1 (2 ^ k) cs j) x ≡ val F (interpolant F (subgroup_points F (w k) k) (strided F 1 (2 ^ k) ys j)) (F.mul one x))
      → Interpolates F (subgroup_points F (w k) k) ys cs
  interpolates_from_values one cs ys unit size count known = record {
    count = size ∙ sym (length-tabulate (2 ^ k) (λ i. pow F (w k) i));
    values =
        map-tabulate (λ x. val F cs x) (2 ^ k) (λ i. pow F (w k) i)
        ∙ tabulate-equal (2 ^ k) (λ i. val F cs (pow F (w k) i)) (λ i. get_or ys i F.zero) (λ i l.
        ap (λ c. val F c (pow F (w k) i)) (sym (strided-one F (2 ^ k) cs size))
        ∙ known 0 (pow F (w k) i) (omega arith)
        ∙ ap (λ x. val F (interpolant F (subgroup_points F (w k) k) (strided F 1 (2 ^ k) ys 0)) x) (ap (λ o. F.mul o (pow F (w k) i)) unit ∙ one_mul F L.ring (pow F (w k) i))
        ∙ val-interpolant F L top w W k b (λ i. get_or ys (i * 1 + 0) F.zero) i l
        ∙ ap (λ m. get_or ys m F.zero) (omega arith))
        ∙ tabulate-get_or (2 ^ k) ys F.zero count;
  }

module _ {A : Type 0} (F : FieldOps A) (matrix : RowMajorMatrix A) (n : ℕ) (xs : List A) (held : Holds matrix 1 n xs) where
  all_entries : length xs ≡ n
  all_entries = omega (arith, held.size)

  pub column-single : column F matrix 0 ≡ xs
  column-single = column-strided F matrix 1 n xs held 0 (omega arith) ∙ strided-one F n xs all_entries

-- an extension of one column
pub single_extension : {A : Type 0} (F : FieldOps A) (points others : List A) (values extended : RowMajorMatrix A) (n m : ℕ) (ys es : List A)
    → AreExtensions F points others values extended → Holds values 1 n ys → Holds extended 1 m es
    → es ≡ map (λ x. val F (interpolant F points ys) x) others
single_extension F points others values extended n m ys es known given made =
    sym (column-single F extended m es made)
    ∙ known.columns 0 (omega (arith, given.columns))
    ∙ ap (λ c. map (λ x. val F (interpolant F points c) x) others) (column-single F values n ys given)
