-- Values of committed polynomials on a domain.
use Rattle.std.specs.Prelude.{◌≡◌, ◌<◌, ◌≤◌, ℕ, ◌/◌, ◌^◌, List, length, map, take}
use Rattle.algebra.specs.Field.{FieldOps, pow}
use Rattle.algebra.specs.Polynomial.{val}
use Rattle.algebra.specs.Words.{coset_word}
use Rattle.p3_field_core.specs.Coset.{coset_points}
use Rattle.p3_field_core.specs.Index.{bit_reversed}
use Rattle.p3_matrix.specs.declared.dense.RowMajorMatrix.{RowMajorMatrix}
use Rattle.p3_matrix.specs.Matrix.{rows, matrix_width}
use Rattle.p3_dft.specs.Evaluations.{column}

-- `values` has the first `2^m` rows of `words` in bit-reversed order
pub record AreFirstValues {A : Type 0} (m : ℕ) (words values : RowMajorMatrix A) : Type 0 where
  pub width : matrix_width values ≡ matrix_width words
  pub entries : rows values ≡ bit_reversed m (take (2 ^ m) (rows words))

module _ {A : Type 0} (F : FieldOps A) where
  -- `fitted` has `2^m` rows, and column by column the values of `coefficients` at each point whose
  -- power is the shift's: on the coset of `shift` of `2^m` points
  pub record AreFitted (shift : A) (m : ℕ) (coefficients fitted : RowMajorMatrix A) : Type 0 where
    pub width : matrix_width fitted ≡ matrix_width coefficients
    pub height : length (rows fitted) ≡ 2 ^ m
    pub values : (j : ℕ) (x : A) → j < matrix_width coefficients
        → pow F x (2 ^ m) ≡ pow F shift (2 ^ m)
        → val F (column F fitted j) x ≡ val F (column F coefficients j) x

module _ {A : Type 0} (F : FieldOps A) (w : ℕ → A) where
  -- column by column, `values` holds, on the coset of `domain_shift` of `2^m` points and in natural
  -- order, the values of the polynomial of a degree `2^log_blowup` times below the height of
  -- `words` whose word over the coset of `shift` the column there is
  pub record AreCommittedValues (shift : A) (log_blowup : ℕ) (domain_shift : A) (m : ℕ)
      (words values : RowMajorMatrix A) : Type 0 where
    pub width : matrix_width values ≡ matrix_width words
    pub height : length (rows values) ≡ 2 ^ m
    pub columns : (k j : ℕ) (c : List A) → length (rows words) ≡ 2 ^ k → j < matrix_width words
        → length c ≤ length (rows words) / 2 ^ log_blowup
        → column F words j ≡ coset_word F w shift k c
        → column F values j ≡ map (λ x. val F c x) (coset_points F (w m) domain_shift m)
