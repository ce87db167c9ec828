-- Which commitments come of a request, over any scheme that is made of parameters.
use Rattle.std.specs.Prelude.{ℕ, Bool, List}
use Rattle.std.specs.List.{AllZip}
use Rattle.p3_challenger_sha256.specs.declared.sha256_challenger.Sha256Challenger.{Sha256Challenger}
use Rattle.p3_pcs.specs.Scheme.{Scheme}
use Rattle.p3_stark_pcs.specs.Scheme.{StarkScheme}
use Rattle.fri_records.specs.declared.records.Batch.{Batch}
use Rattle.fri_statement.specs.Setting.{SchemeFields}
use Rattle.fri_commitments.specs.Committed.{IsCommittedTo}

module _ {F E : Type 0} (f : SchemeFields F E) {P Dom D Proof Error ProverError : Type 0}
    (rules : P → Scheme E (Sha256Challenger F) F Dom (List ℕ) D Proof Error ProverError)
    (shift_of : Dom → F) (log_size_of : Dom → ℕ) (IsScheme : P → Type 0) where
  module _ (hides : Bool) (stark_rules : P → StarkScheme E F Dom D ProverError)
      (batches : List Batch) where
    -- the scheme's commitments to the batches
    pub record AreCommitments (commitments : List (List ℕ)) : Type 0 where
      pub scheme : P
      pub is_of : IsScheme scheme
      pub commit : AllZip (λ commitment batch. (datum : D) × IsCommittedTo f (rules scheme)
          (stark_rules scheme) hides shift_of log_size_of commitment datum batch)
          commitments batches
