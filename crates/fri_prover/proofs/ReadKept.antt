-- What a prover of the plain scheme keeps of a batch that was read.
use Rattle.std.proofs.Common.{ℕ, List, false, sym, subst, ◌∙◌}
use Rattle.p3_pcs.specs.Scheme.{Scheme}
use Rattle.p3_stark_pcs.specs.Scheme.{StarkScheme}
use Rattle.fri_records.specs.declared.records.Batch.{Batch}
use Rattle.fri_statement.specs.Setting.{SchemeFields}
use Rattle.fri_numbers.specs.Listed.{domain_of, domain_committed, IsListed}
use Rattle.fri_commitments.specs.declared.committed.Committed.{Committed}
use Rattle.fri_commitments.specs.declared.reading.ListedBatch.{ListedBatch}
use Rattle.fri_commitments.specs.Committed.{Lists, CommitsTo, KeepsRead}
use Rattle.fri_requests.specs.PlainRequests.{InputData}
use Rattle.fri_prover.specs.Keeping.{IsKept}
use Rattle.fri_numbers.proofs.Kept.{pairs_same, through}
use Rattle.fri_numbers.proofs.Listed.{HaveNumbers}
use Rattle.fri_requests.proofs.PlainRules.{ArePlain, keeps_of}

module _ {F E : Type 0} (f : SchemeFields F E) (numbered : HaveNumbers f) (input_length : ℕ)
    {C Dom Proof Error ProverError : Type 0}
    (r : Scheme E C F Dom (List ℕ) (InputData f input_length) Proof Error ProverError)
    (t : StarkScheme E F Dom (InputData f input_length) ProverError) (shift_of : Dom → F)
    (log_size_of : Dom → ℕ) (b : ℕ) (plain : ArePlain f input_length r t shift_of log_size_of b) where
  -- what was kept of a batch that was read is kept of the batch
  pub is_kept : (c : Committed (InputData f input_length) Dom) (read : ListedBatch F Dom) (batch : Batch) → KeepsRead r t c read
      → Lists f false shift_of log_size_of read batch → IsKept f input_length shift_of log_size_of b c batch
  is_kept c read batch k l =
      let es = read.evaluations.items in record {
        root = sym k.commits.commits ∙ plain.commitments c.data;
        keeps = keeps_of f numbered input_length r t shift_of log_size_of b plain c.commitment c.data
            batch (record {
              evaluations = es;
              listed = l.evaluations;
              commits = subst (λ p. CommitsTo r t c.commitment c.data p es) l.preprocessed k.commits;
            });
        domains = through (λ d. domain_of f (shift_of d) (log_size_of d)) (λ e. e.0) es c.domains.items _ k.domains
            (sym (pairs_same (IsListed f false shift_of log_size_of) (λ e. domain_of f (shift_of e.0) (log_size_of e.0))
            (λ m. domain_committed false m.domain) (λ e m h. h.domain) es batch.matrices.items l.evaluations));
      }
