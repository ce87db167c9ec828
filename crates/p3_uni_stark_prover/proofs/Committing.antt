-- What is committed to, once all commitments are made.
use Rattle.std.proofs.Common.{if◌then◌else◌}
use Rattle.std.proofs.Common.{◌≡◌, ℕ, ◌+◌, Bool, List, length, refl, subst}
use Rattle.std.proofs.Common.{Option}
use Rattle.std.specs.List.{AllZip}
use Rattle.p3_challenger_core.specs.Run.{Moves}
use Rattle.p3_matrix.specs.declared.dense.RowMajorMatrix.{RowMajorMatrix}
use Rattle.p3_matrix.specs.Matrix.{matrix_width}
use Rattle.p3_periodic.specs.Views.{rows_if_any}
use Rattle.p3_pcs.specs.Requests.{Held}
use Rattle.p3_pcs.specs.Scheme.{Scheme, AreKept}
use Rattle.p3_stark_pcs.specs.Scheme.{StarkScheme, AreKeptStark}
use Rattle.p3_uni_stark_verifier.specs.declared.proof.Statement.{Statement}
use Rattle.p3_uni_stark_verifier.specs.Chunks.{hiding_bits}
use Rattle.p3_uni_stark_verifier.specs.Setting.{StarkFields}
use Rattle.p3_uni_stark_phases.specs.declared.commits.Committed.{Committed}
use Rattle.p3_uni_stark_phases.specs.Commits.{HoldsTrace, HoldsChunks, IsRandom}
use Rattle.p3_uni_stark_phases.specs.Split.{commitment_in, data_in}
use Rattle.p3_uni_stark_pcs.specs.Rooms.{HasRoom, AreChunksOf}
use Rattle.p3_uni_stark_prover.specs.declared.preparation.Preparation.{Preparation}
use Rattle.p3_uni_stark_prover.specs.Committed.{AreCommitted}
use Rattle.p3_uni_stark_prover.specs.Finished.{first_drawn}
use Rattle.p3_uni_stark_prover.specs.Held.{HoldPreprocessed}
use Rattle.p3_uni_stark_prover.specs.Quotients.{IsQuotientOn}
use Rattle.p3_uni_stark_prover.proofs.Kept.{trace_kept, preprocessed_kept, quotient_kept, chunks_kept}
use Rattle.p3_uni_stark_prover.proofs.Kept.{chunked}

-- chunks of which a caller knows the number may be extended
pub extendable : {E C V Dom Com D Opening Error ProverError : Type 0} (fields : StarkFields V E)
    (shift : Dom → V) (log_size : Dom → ℕ) (zk : Bool)
    (r : Scheme E C V Dom Com D Opening Error ProverError)
    (t : StarkScheme E V Dom D ProverError) (k log d : ℕ) → d ≡ log + hiding_bits zk
    → HasRoom fields shift log_size zk r t k log → (chunks : List (Dom × RowMajorMatrix V))
    → AreChunksOf fields shift log_size k d chunks → t.CanExtend chunks (length chunks)
extendable fields shift log_size zk r t k log d is room chunks are =
    room.chunks chunks (subst (λ n. AreChunksOf fields shift log_size k n chunks) is are)

module _ {E C V Dom Com D Opening Error ProverError : Type 0} (fields : StarkFields V E)
    (coefficients : E → List V) (m : Moves C V E Com) (shift : Dom → V) (log_size : Dom → ℕ)
    (zk : Bool) (embed : V → E) (point : Dom → ℕ → V)
    (recombined : List Dom → List (List E) → E → List E)
    (chunk_polynomials : Dom × RowMajorMatrix V → Held E) (s : Statement V Com)
    (p : Preparation V Dom) (trace : RowMajorMatrix V)
    (r q v : Scheme E C V Dom Com D Opening Error ProverError)
    (t u w : StarkScheme E V Dom D ProverError)
    (rq : AreKept r q) (qv : AreKept q v) (tu : AreKeptStark t u) (uw : AreKeptStark u w) where
  abbrev IsColumnDomain : Dom → Type 0
  IsColumnDomain x = (shift x ≡ fields.base.one) × (log_size x ≡ p.log_height + hiding_bits zk)

  pub all_committed : (c middle : C) (alpha : E) (hash : Com)
      → first_drawn fields m s p.log_height zk hash c ≡ record { value = alpha; state = middle }
      → (domain : Dom) → IsColumnDomain domain → (d : D) → HoldsTrace r domain trace hash d
      → (pre : Option D) → HoldPreprocessed r t IsColumnDomain p.log_height
      s.air.now.layout.preprocessed_width s.preprocessed pre
      → (chunks : List (Dom × RowMajorMatrix V))
      → IsQuotientOn fields coefficients shift log_size r embed point p.coset s
      (rows_if_any p.periodic) d pre p.log_height p.log_num_chunks alpha chunks
      → (root : Com) (e : D) → HoldsChunks q u zk recombined chunk_polynomials chunks root e
      → ((ldes : List (RowMajorMatrix V)) → u.ExtendQuotients chunks ldes
      → AllZip (λ lde e. (z : E)
      → length ((u.polynomials_of lde).values_at z) ≡ matrix_width e.1) ldes chunks)
      → (found : Option (Committed Com D)) → IsRandom v w zk domain found
      → (random : Option Com) (x : Option D) → random ≡ commitment_in found → x ≡ data_in found
      → AreCommitted fields coefficients m shift log_size zk v w embed point recombined
      chunk_polynomials s p trace pre c middle
      (record { trace = hash; quotient_chunks = root; random = random })
      (record { preprocessed = pre; trace = d; quotient = e; random = x })
  all_committed c middle alpha hash drawn domain is d held pre pre_held chunks quotient root e
      chunks_held widths found random_held random x same_random same_data = record {
        alpha = alpha;
        drawn = drawn;
        domain = domain;
        shift_is = is.0;
        size = is.1;
        trace_held = trace_kept q v qv domain trace hash d
            (trace_kept r q rq domain trace hash d held);
        preprocessed_is = refl;
        preprocessed_held = preprocessed_kept q v qv u w uw IsColumnDomain IsColumnDomain (λ x h. h)
            p.log_height s.air.now.layout.preprocessed_width s.preprocessed pre
            (preprocessed_kept r q rq t u tu IsColumnDomain IsColumnDomain (λ x h. h) p.log_height
            s.air.now.layout.preprocessed_width s.preprocessed pre pre_held);
        chunks = chunks;
        quotient = quotient_kept q v qv embed point p.coset fields coefficients shift log_size s
            (rows_if_any p.periodic) d pre p.log_height p.log_num_chunks alpha chunks
            (quotient_kept r q rq embed point p.coset fields coefficients shift log_size s
            (rows_if_any p.periodic) d pre p.log_height p.log_num_chunks alpha chunks quotient);
        chunked = chunks_kept q v qv (if zk then 2 else 1) recombined chunk_polynomials chunks root
            e (chunked q u zk recombined chunk_polynomials chunks root e chunks_held widths);
        random = record {
          found = found;
          random = random_held;
          commitment_is = same_random;
          data_is = same_data;
        };
      }
