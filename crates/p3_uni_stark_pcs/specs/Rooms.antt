-- Where a scheme has room for a trace and its quotient.
use Rattle.std.specs.Prelude.{◌≡◌, ℕ, ◌+◌, ◌^◌, Bool, List, [], ◌∷◌, length}
use Rattle.p3_matrix.specs.declared.dense.RowMajorMatrix.{RowMajorMatrix}
use Rattle.p3_matrix.specs.Matrix.{rows}
use Rattle.p3_pcs.specs.Scheme.{Scheme}
use Rattle.p3_stark_pcs.specs.Scheme.{StarkScheme}
use Rattle.p3_uni_stark_phases.specs.Chunks.{AreChunkPairs}
use Rattle.p3_uni_stark_verifier.specs.Chunks.{hiding_bits}
use Rattle.p3_uni_stark_verifier.specs.Setting.{StarkFields}

module _ {V E Dom : Type 0} (fields : StarkFields V E) (shift : Dom → V) (log_size : Dom → ℕ) where
  -- chunks of a quotient of elements, on the cosets into which that of the field's generator is
  -- split
  abbrev pub AreChunksOf : (k d : ℕ) → List (Dom × RowMajorMatrix V) → Type 0
  AreChunksOf k d chunks = AreChunkPairs fields.base fields.root fields.generator
      fields.dimension shift log_size k d chunks

  -- Matrices of `2^k` rows may be committed to on domains of as many points, and of twice as many
  -- where the scheme hides; the chunks of a quotient that needs `2^log` of them may be extended;
  -- and random polynomials may be committed to on such domains.
  pub record HasRoom {C Com D Opening Error ProverError : Type 0} (zk : Bool)
      (r : Scheme E C V Dom Com D Opening Error ProverError)
      (t : StarkScheme E V Dom D ProverError) (k log : ℕ) : Type 0 where
    pub trace : (domain : Dom) (matrix : RowMajorMatrix V) → log_size domain ≡ k + hiding_bits zk
        → length (rows matrix) ≡ 2 ^ k → r.CanCommit ((domain, matrix) ∷ [])
    pub chunks : (chunks : List (Dom × RowMajorMatrix V))
        → AreChunksOf k (log + hiding_bits zk) chunks → t.CanExtend chunks (length chunks)
    pub random : (domain : Dom) → log_size domain ≡ k + hiding_bits zk
        → t.CanRandomize (domain ∷ [])
