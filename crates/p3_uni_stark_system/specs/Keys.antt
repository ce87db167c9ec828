-- Keys of preprocessed columns, and why there is none.
use Rattle.std.specs.Prelude.{◌≡◌, ◌<◌, ◌≤◌, ⊤, ℕ, ◌+◌, ◌^◌, Bool, List, [], ◌∷◌, All, length, map}
use Rattle.std.specs.Prelude.{Option, None, Some}
use Rattle.p3_air_plain.specs.Elements.{RowsFault}
use Rattle.p3_air_plain.specs.declared.error.Part.TheVariants as part
use Rattle.p3_matrix.specs.declared.dense.RowMajorMatrix.{RowMajorMatrix}
use Rattle.p3_matrix.specs.Matrix.{rows as matrix_rows, matrix_width}
use Rattle.p3_pcs.specs.Scheme.{Scheme}
use Rattle.p3_stark_pcs.specs.Scheme.{StarkScheme}
use Rattle.p3_uni_stark_phases.specs.Commits.{IsCommittedTo, ExtendsOne}
use Rattle.p3_uni_stark_verifier.specs.Chunks.{hiding_bits}
use Rattle.p3_uni_stark_verifier.specs.declared.proof.PreprocessedVerifierKey.{
  PreprocessedVerifierKey,
}
use Rattle.p3_uni_stark_system.specs.declared.error.PreprocessingError.{PreprocessingError}
use Rattle.p3_uni_stark_system.specs.declared.error.PreprocessingError.TheVariants as fault

-- over a scheme that hides or not, with these subgroups of `2^k` points as domains
module _ {E C V Dom Com D Opening Error ProverError : Type 0}
    (r : Scheme E C V Dom Com D Opening Error ProverError) (zk : Bool)
    (IsSubgroup : ℕ → Dom → Type 0) where
  -- the key has the height and the commitment of columns that have these rows, by this datum
  pub record IsKeyOfColumns (width : ℕ) (rows : List (List V)) (key : PreprocessedVerifierKey Com)
      (d : D) : Type 0 where
    pub columns : RowMajorMatrix V
    pub are_rows : matrix_rows columns ≡ rows
    pub widths : matrix_width columns ≡ width
    pub height : length rows ≡ 2 ^ key.log_height
    pub committed : IsCommittedTo r key.commitment d
    pub domain : Dom
    pub is_domain : IsSubgroup (key.log_height + hiding_bits zk) domain
    pub extends : ExtendsOne r domain columns d

  -- the key of columns that have these rows; without columns there is none
  abbrev pub IsKeyOf : (width : ℕ) → List (List V) → Option (PreprocessedVerifierKey Com) → Type 0
  IsKeyOf width rows None = width ≡ 0
  IsKeyOf width rows (Some key) = (d : D) × IsKeyOfColumns width rows key d

  -- of rows that have these numbers
  pub record IsKeyOfNumbers (canonical : V → ℕ) (width : ℕ) (numbers : List (List ℕ))
      (key : Option (PreprocessedVerifierKey Com)) : Type 0 where
    pub rows : List (List V)
    pub are_numbers : map (map canonical) rows ≡ numbers
    pub is_key : IsKeyOf width rows key

  module _ (t : StarkScheme E V Dom D ProverError) where
    -- the key of `2^k` such rows with its datum, which may be opened; or neither
    abbrev pub AreHeld : (k width : ℕ) → List (List V) → Option (PreprocessedVerifierKey Com)
        → Option D → Type 0
    AreHeld k width rows None None = width ≡ 0
    AreHeld k width rows None (Some d) = ⊥
    AreHeld k width rows (Some key) None = ⊥
    AreHeld k width rows (Some key) (Some d) = (0 < width) × (key.log_height ≡ k)
        × t.CanOpenPreprocessed d × IsKeyOfColumns width rows key d

-- There are a power of two of rows, with room in a field of this two-adicity over a scheme of this
-- blowup that hides or not.
pub record HaveRoom (zk : Bool) (two_adicity log_blowup : ℕ) (rows : List (List ℕ)) : Type 0 where
  pub log_height : ℕ
  pub height : length rows ≡ 2 ^ log_height
  pub room : log_height + hiding_bits zk + log_blowup ≤ two_adicity

module _ {E V Dom D ProverError : Type 0} (t : StarkScheme E V Dom D ProverError) (zk : Bool)
    (IsSubgroup : ℕ → Dom → Type 0) where
  -- why these columns of `2^k` rows aren't committed to: the scheme refuses them on the subgroup
  abbrev pub MatrixFault : (k : ℕ) → RowMajorMatrix V → PreprocessingError ProverError → Type 0
  MatrixFault k columns (fault.Refused e) = (domain : Dom)
      × IsSubgroup (k + hiding_bits zk) domain × t.PreprocessingRefuses ((domain, columns) ∷ []) e
  MatrixFault k columns fault.OutOfMemory = ⊤
  MatrixFault k columns _ = ⊥

  -- and why columns that have these rows aren't
  abbrev pub ColumnsFault : (k : ℕ) → List (List V) → PreprocessingError ProverError → Type 0
  ColumnsFault k rows (fault.Refused e) = (columns : RowMajorMatrix V)
      × (matrix_rows columns ≡ rows) × MatrixFault k columns (fault.Refused e)
  ColumnsFault k rows fault.OutOfMemory = ⊤
  ColumnsFault k rows _ = ⊥

  module _ (order two_adicity log_blowup : ℕ) (canonical : V → ℕ) where
    -- columns that have the rows of these numbers are refused
    pub record AreRefused (numbers : List (List ℕ)) (e : PreprocessingError ProverError) : Type 0
      where
        pub log_height : ℕ
        pub rows : List (List V)
        pub are_numbers : map (map canonical) rows ≡ numbers
        pub refused : ColumnsFault log_height rows e

    -- why there is no key of rows of numbers
    abbrev pub PreprocessingFault : (width : ℕ) → List (List ℕ) → PreprocessingError ProverError
        → Type 0
    PreprocessingFault width numbers fault.Width = ¬ All (λ row. length row ≡ width) numbers
    PreprocessingFault width numbers fault.Height = ¬ HaveRoom zk two_adicity log_blowup numbers
    PreprocessingFault width numbers (fault.Element f) =
        RowsFault order part.Preprocessed numbers f
    PreprocessingFault width numbers (fault.Refused e) = AreRefused numbers (fault.Refused e)
    PreprocessingFault width numbers fault.OutOfMemory = ⊤
