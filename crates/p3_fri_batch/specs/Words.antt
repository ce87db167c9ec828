-- The words of quotients of opened matrices.
use Rattle.std.specs.Prelude.{◌≡◌, ◌==◌, ◌<◌, if◌then◌else◌, ℕ, ◌^◌, List, [], map, length, All}
use Rattle.std.specs.Prelude.{slice_index_or}
use Rattle.std.specs.List.{flat_map}
use Rattle.algebra.specs.Field.{FieldOps, pow}
use Rattle.algebra.specs.Polynomial.{val, tabulate}
use Rattle.algebra.specs.Cosets.{coset_pt}
use Rattle.algebra.specs.Quotients.{quotients}
use Rattle.algebra.specs.Words.{IsCosetWord}
use Rattle.p3_matrix.specs.declared.dense.RowMajorMatrix.{RowMajorMatrix}
use Rattle.p3_matrix.specs.Matrix.{rows, matrix_width}
use Rattle.p3_dft.specs.Evaluations.{column}
use Rattle.p3_pcs.specs.Claims.{PointClaim}
use Rattle.p3_fri_relation.specs.Setting.{Fields}
use Rattle.p3_fri_openings.specs.Rounds.{log_height}
use Rattle.p3_fri_openings.specs.Refusals.{IsOff}
use Rattle.p3_fri_openings.specs.Committed.{committed_values}

module _ {E : Type 0} where
  abbrev pub claim_at : E → List E → PointClaim E
  claim_at z ys = record { point = z; values = ys }

  -- the quotients of a row that is read at `x`, point by point and column by column
  abbrev pub terms_at : FieldOps E → (x : E) (row : List E) (claims : List (PointClaim E)) → List E
  terms_at K x row claims = flat_map (λ z. quotients K z.point x z.values row) claims

-- a committed matrix, and what is claimed of it
pub record Opened (F E : Type 0) : Type 0 where
  pub matrix : RowMajorMatrix F
  pub claims : List (PointClaim E)

module _ {F E : Type 0} (f : Fields F E) where
  -- the point at which entry `i` of a word of log height `h` stands
  abbrev pub point_of_entry : (h i : ℕ) → E
  point_of_entry h i = f.lift (coset_pt f.base f.root f.shift i h)

  -- a matrix's quotients at entry `i` of the word of log height `h`, if that is its log height
  abbrev pub opened_terms : (h i : ℕ) → Opened F E → List E
  opened_terms h i m =
      if log_height m.matrix == h
      then terms_at f.ext (point_of_entry h i)
      (map f.lift (slice_index_or (rows m.matrix) i [])) m.claims
      else []

  -- the word of log height `h` of the quotients of opened matrices: at each entry the sum of the
  -- quotients of all matrices of that log height, in order, the `t`-th times `alpha^t`
  abbrev pub batch_word : (alpha : E) (h : ℕ) → List (Opened F E) → List E
  batch_word alpha h ms =
      tabulate (2 ^ h) (λ i. val f.ext (flat_map (opened_terms h i) ms) alpha)

  -- the word is that of these matrices, and `step` the power of `alpha` at which further quotients
  -- go on
  pub record IsSummed (alpha : E) (h : ℕ) (ms : List (Opened F E)) (word : List E) (step : E)
      : Type 0 where
    pub word_is : word ≡ batch_word alpha h ms
    pub step_is : (i : ℕ) → i < 2 ^ h
        → step ≡ pow f.ext alpha (length (flat_map (opened_terms h i) ms))

-- of a matrix of log height `h`: its columns are words of polynomials of `2^k` coefficients, and
-- what is claimed are their values, at points off the coset
pub record IsOpenedWord {F E : Type 0} (f : Fields F E) (log_blowup h k : ℕ) (m : Opened F E)
    : Type 0 where
  pub height : length (rows m.matrix) ≡ 2 ^ h
  pub columns : (j : ℕ) → j < matrix_width m.matrix
      → IsCosetWord f.base f.root f.shift h (2 ^ k) (column f.base m.matrix j)
  pub honest : All (λ z. z.values ≡ committed_values f log_blowup m.matrix z.point) m.claims
  pub off : All (λ z. IsOff f h z.point) m.claims
