-- Preprocessed columns, and what a statement's constraint system is held against.
use Rattle.std.specs.Prelude.{◌≡◌, ℕ, ◌^◌, ⊤, List, length, Option, None, Some}
use Rattle.algebra.specs.Nested.{lists}
use Rattle.p3_matrix.specs.declared.dense.RowMajorMatrix.{RowMajorMatrix}
use Rattle.p3_matrix.specs.Matrix.{rows, matrix_width}
use Rattle.p3_air.specs.Satisfied.{Assigned}
use Rattle.p3_pcs.specs.Scheme.{Scheme}
use Rattle.p3_stark_pcs.specs.Scheme.{StarkScheme}
use Rattle.p3_uni_stark_phases.specs.Commits.{IsCommittedTo, ExtendsOne}
use Rattle.p3_uni_stark_verifier.specs.declared.proof.PreprocessedVerifierKey.{
  PreprocessedVerifierKey,
}
use Rattle.p3_uni_stark_verifier.specs.declared.proof.Statement.{Statement}

-- what the statement's constraint system is held against, with this trace and these rows of the
-- preprocessed columns
abbrev pub assigned_to : {V Com : Type 0} → Statement V Com → (trace preprocessed : List (List V))
    → Assigned V
assigned_to s trace preprocessed = record {
  trace = trace;
  preprocessed = preprocessed;
  public_values = s.public_values.now;
  periodic = lists s.periodic.now;
}

module _ {E C V Dom Com D Opening Error ProverError : Type 0}
    (r : Scheme E C V Dom Com D Opening Error ProverError) where
  module _ (t : StarkScheme E V Dom D ProverError) where
    module _ (IsDomain : Dom → Type 0) where
      -- preprocessed columns, so many and of `2^k` rows, under this key, on some such domain
      pub record HoldsPreprocessed (k count : ℕ) (key : PreprocessedVerifierKey Com) (d : D)
          : Type 0 where
        pub committed : IsCommittedTo r key.commitment d
        pub openable : t.CanOpenPreprocessed d
        pub log_height : key.log_height ≡ k
        pub columns : RowMajorMatrix V
        pub width : matrix_width columns ≡ count
        pub height : length (rows columns) ≡ 2 ^ k
        pub domain : Dom
        pub is_domain : IsDomain domain
        pub extends : ExtendsOne r domain columns d

      -- where there is a key there are such columns
      abbrev pub HoldPreprocessed : (k width : ℕ) → Option (PreprocessedVerifierKey Com)
          → Option D → Type 0
      HoldPreprocessed k width None None = ⊤
      HoldPreprocessed k width None (Some d) = ⊥
      HoldPreprocessed k width (Some key) None = ⊥
      HoldPreprocessed k width (Some key) (Some d) = HoldsPreprocessed k width key d

  -- preprocessed columns, if there are any, have these rows on some such domain
  abbrev pub HavePreprocessedRows : (IsDomain : Dom → Type 0) → List (List V) → Option D → Type 0
  HavePreprocessedRows IsDomain given None = ⊤
  HavePreprocessedRows IsDomain given (Some d) = (domain : Dom) × IsDomain domain
      × (columns : RowMajorMatrix V) × (rows columns ≡ given) × ExtendsOne r domain columns d
