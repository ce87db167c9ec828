-- What a prover has committed to, before the point is drawn.
use Rattle.std.specs.Prelude.{◌≡◌, ℕ, ◌+◌, ◌*◌, Bool, List, map, length, Option}
use Rattle.std.specs.Prelude.{if◌then◌else◌}
use Rattle.std.specs.List.{AllZip}
use Rattle.p3_challenger_core.specs.Run.{Moves}
use Rattle.p3_matrix.specs.declared.dense.RowMajorMatrix.{RowMajorMatrix}
use Rattle.p3_matrix.specs.Matrix.{matrix_width}
use Rattle.p3_periodic.specs.Views.{rows_if_any}
use Rattle.p3_pcs.specs.Requests.{Held}
use Rattle.p3_pcs.specs.Scheme.{Scheme}
use Rattle.p3_stark_pcs.specs.Scheme.{StarkScheme}
use Rattle.p3_uni_stark_verifier.specs.declared.proof.Commitments.{Commitments}
use Rattle.p3_uni_stark_verifier.specs.declared.proof.Statement.{Statement}
use Rattle.p3_uni_stark_verifier.specs.Chunks.{hiding_bits}
use Rattle.p3_uni_stark_verifier.specs.Setting.{StarkFields}
use Rattle.p3_uni_stark_phases.specs.declared.commits.Committed.{Committed}
use Rattle.p3_uni_stark_phases.specs.Commits.{IsCommittedTo, HoldsTrace, IsRandom}
use Rattle.p3_uni_stark_phases.specs.Split.{commitment_in, data_in}
use Rattle.p3_uni_stark_opening.specs.declared.opening.ColumnData.{ColumnData}
use Rattle.p3_uni_stark_prover.specs.declared.preparation.Preparation.{Preparation}
use Rattle.p3_uni_stark_prover.specs.Finished.{first_drawn}
use Rattle.p3_uni_stark_prover.specs.Held.{HoldPreprocessed}
use Rattle.p3_uni_stark_prover.specs.Quotients.{IsQuotientOn}

module _ {E C V Dom Com D Opening Error ProverError : Type 0}
    (r : Scheme E C V Dom Com D Opening Error ProverError) where
  -- what is committed to of chunks: as wide as these, of so many times as many coefficients as
  -- their domains have points, and recombined as they
  pub record IsChunked (times : ℕ) (recombined : List Dom → List (List E) → E → List E)
      (chunk_polynomials : Dom × RowMajorMatrix V → Held E)
      (chunks : List (Dom × RowMajorMatrix V)) (commitment : Com) (d : D) : Type 0 where
    pub committed : IsCommittedTo r commitment d
    pub openable : r.CanOpen d
    pub widths : AllZip (λ m e. (z : E) → length (m.values_at z) ≡ matrix_width e.1)
        (r.committed_polynomials d) chunks
    pub sizes : AllZip (λ m e. m.size ≡ times * r.domain_size e.0)
        (r.committed_polynomials d) chunks
    pub recombine : (z : E) → recombined (map (λ e. e.0) chunks)
        (map (λ m. m.values_at z) (r.committed_polynomials d)) z
        ≡ recombined (map (λ e. e.0) chunks)
        (map (λ e. (chunk_polynomials e).values_at z) chunks) z

  -- random polynomials that there may be are those of this commitment and these data
  pub record AreRandom (t : StarkScheme E V Dom D ProverError) (zk : Bool) (domain : Dom)
      (commitment : Option Com) (d : Option D) : Type 0 where
    pub found : Option (Committed Com D)
    pub random : IsRandom r t zk domain found
    pub commitment_is : commitment ≡ commitment_in found
    pub data_is : d ≡ data_in found

-- The trace on the subgroup of as many points, or of twice as many where the scheme hides, with the
-- preprocessed columns; after the challenge that is drawn then, the chunks of the quotient; and
-- random polynomials on that subgroup where the scheme hides.
pub record AreCommitted {E C V Dom Com D Opening Error ProverError : Type 0}
    (fields : StarkFields V E) (coefficients : E → List V) (m : Moves C V E Com) (shift : Dom → V)
    (log_size : Dom → ℕ) (zk : Bool) (r : Scheme E C V Dom Com D Opening Error ProverError)
    (t : StarkScheme E V Dom D ProverError) (embed : V → E) (point : Dom → ℕ → V)
    (recombined : List Dom → List (List E) → E → List E)
    (chunk_polynomials : Dom × RowMajorMatrix V → Held E) (s : Statement V Com)
    (p : Preparation V Dom) (trace : RowMajorMatrix V) (preprocessed : Option D)
    (c middle : C) (commitments : Commitments Com) (committed : ColumnData D) : Type 0 where
  pub alpha : E
  pub drawn : first_drawn fields m s p.log_height zk commitments.trace c
      ≡ record { value = alpha; state = middle }
  pub domain : Dom
  pub shift_is : shift domain ≡ fields.base.one
  pub size : log_size domain ≡ p.log_height + hiding_bits zk
  pub trace_held : HoldsTrace r domain trace commitments.trace committed.trace
  pub preprocessed_is : committed.preprocessed ≡ preprocessed
  pub preprocessed_held : HoldPreprocessed r t
      (λ x. (shift x ≡ fields.base.one) × (log_size x ≡ p.log_height + hiding_bits zk))
      p.log_height s.air.now.layout.preprocessed_width s.preprocessed committed.preprocessed
  pub chunks : List (Dom × RowMajorMatrix V)
  pub quotient : IsQuotientOn fields coefficients shift log_size r embed point p.coset s
      (rows_if_any p.periodic) committed.trace committed.preprocessed p.log_height
      p.log_num_chunks alpha chunks
  pub chunked : IsChunked r (if zk then 2 else 1) recombined chunk_polynomials chunks
      commitments.quotient_chunks committed.quotient
  pub random : AreRandom r t zk domain commitments.random committed.random
