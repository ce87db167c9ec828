-- What the calls on matrices share: the logarithm of the height, and what a matrix and its values
-- hold.
use Rattle.std.proofs.Common.{◌≡◌, ℕ, suc, ◌+◌, ◌*◌, ◌%◌, ◌^◌, ◌<◌, ◌≤◌, List, length, get_or}
use Rattle.std.proofs.Common.{subst, sym, ap, ap₂, ◌∙◌, arith}
use Rattle.std.proofs.Math.Nat.{mul-mod_left}
use Rattle.std.proofs.lemmas.Nat.{pow_pos}
use Rattle.algebra.specs.Field.{FieldOps, IsRing, IsField, pow}
use Rattle.algebra.specs.Polynomial.{val}
use Rattle.algebra.proofs.Powers.{double}
use Rattle.algebra.proofs.Lists.{tabulate-equal}
use Rattle.p3_field_core.proofs.IndexPowers.{exponent_below}
use Rattle.p3_matrix.specs.declared.dense.RowMajorMatrix.{RowMajorMatrix}
use Rattle.p3_matrix.specs.Matrix.{rows, matrix_width}
use Rattle.p3_matrix.specs.Rows.{rows_of}
use Rattle.p3_dft.specs.Strided.{strided, HoldsValues}
use Rattle.p3_dft.proofs.Columns.{Holds}
use Rattle.p3_dft.proofs.Coefficients.{val-tabulate_stretched}

pub exponent_within : (j k n : ℕ) → 2 ^ j ≡ n → n ≤ 2 ^ k → j ≤ k
exponent_within j k n e b = omega (arith, exponent_below j (suc k) (omega (arith, e, b, double k, pow_pos k)))

pub whole_columns : (n height width : ℕ) → n ≡ height * width → n % width ≡ 0
whole_columns n height width e = ap (λ m. m % width) e ∙ mul-mod_left height width

module _ {A : Type 0} (matrix : RowMajorMatrix A) (width height len : ℕ) (xs : List A) (some : 0 < width) (long : len ≡ length xs) where
  -- a matrix and its values
  pub held_by_values : width ≡ matrix_width matrix → height ≡ length (rows matrix) → rows_of (matrix_width matrix) xs ≡ rows matrix → len ≡ length (rows matrix) * matrix_width matrix → Holds matrix width height xs
  held_by_values columns count entries size = record {
    some = some;
    entries = sym entries ∙ ap (λ w. rows_of w xs) (sym columns);
    columns = sym columns;
    size = sym long ∙ size ∙ ap₂ (λ m n. m * n) (sym count) (sym columns);
  }

  -- a matrix made of values
  pub held_by_new : rows matrix ≡ rows_of width xs → matrix_width matrix ≡ width → len ≡ height * width → Holds matrix width height xs
  held_by_new entries columns size = record { some = some; entries = entries; columns = columns; size = sym long ∙ size }

module _ {A : Type 0} (F : FieldOps A) where
  -- the root by another name
  pub values_at : (x y : A) (width height : ℕ) (xs ys : List A) → x ≡ y → HoldsValues F x width height xs ys
      → HoldsValues F y width height xs ys
  values_at x y width height xs ys e known =
      let Known : A → Type 0 = λ x. HoldsValues F x width height xs ys in
      subst Known e known

  -- rows scaled by powers of the shift move the points to its coset
  pub coset_values : IsRing F → (one root shift : A) (width height : ℕ) (xs ss ys : List A) → one ≡ F.one
      → ((i j : ℕ) → i < height → j < width → get_or ss (i * width + j) F.zero ≡ F.mul (get_or xs (i * width + j) F.zero) (F.mul one (pow F shift i)))
      → HoldsValues F root width height ss ys
      → (i j : ℕ) → i < height → j < width → get_or ys (i * width + j) F.zero ≡ val F (strided F width height xs j) (F.mul shift (pow F root i))
  coset_values R one root shift width height xs ss ys unit scaled known i j l q =
      known i j l q
      ∙ ap (λ c. val F c (pow F root i)) (tabulate-equal height (λ i. get_or ss (i * width + j) F.zero) (λ i. F.mul (get_or xs (i * width + j) F.zero) (pow F shift i))
      (λ i b. scaled i j b q ∙ ap (λ p. F.mul (get_or xs (i * width + j) F.zero) p) (ap (λ o. F.mul o (pow F shift i)) unit ∙ R.mul_comm F.one (pow F shift i) ∙ R.mul_one (pow F shift i))))
      ∙ val-tabulate_stretched F R height (λ i. get_or xs (i * width + j) F.zero) shift (pow F root i)

  -- the inverse of a shift takes a point of its coset back to the subgroup
  pub shifted_back : IsField F → (shift inverse x : A) → ¬ (shift ≡ F.zero) → inverse ≡ F.inv shift → F.mul inverse (F.mul shift x) ≡ x
  shifted_back L shift inverse x nonzero e =
      sym (L.mul_assoc inverse shift x)
      ∙ ap (λ t. F.mul t x) (L.mul_comm inverse shift ∙ ap (λ t. F.mul shift t) e ∙ L.mul_inv shift nonzero)
      ∙ L.mul_comm F.one x
      ∙ L.mul_one x
