-- What is to be opened of a request, once its batches are committed to.
use Rattle.std.specs.Prelude.{◌≡◌, ℕ, Bool, List, Option, map, string_bytes}
use Rattle.std.specs.List.{AllZip}
use Rattle.algebra.specs.Nested.{nested}
use Rattle.p3_challenger_sha256.specs.declared.sha256_challenger.Sha256Challenger.{Sha256Challenger}
use Rattle.p3_pcs.specs.Claims.{zip_with}
use Rattle.p3_pcs.specs.Scheme.{Scheme}
use Rattle.p3_stark_pcs.specs.Scheme.{StarkScheme}
use Rattle.fri_records.specs.declared.records.Request.{Request}
use Rattle.fri_records.specs.Records.{parameters_in}
use Rattle.fri_statement.specs.Setting.{SchemeFields}
use Rattle.fri_opening.specs.declared.prepared.Prepared.{Prepared}
use Rattle.fri_verification.specs.Bound.{context_listed, batch_asked, bound}
use Rattle.fri_commitments.specs.Committed.{Keeps}
use Rattle.fri_commitments.specs.Preprocessing.{NamesPreprocessed}
use Rattle.fri_commitments.specs.Requests.{CanOpen}
use Rattle.fri_commitments.specs.Read.{ArePoints}

module _ {F E : Type 0} (f : SchemeFields F E) where
  -- the state that is bound to a request, from that in which the challenger begins, once its
  -- batches have these commitments
  abbrev pub state_asked : (hides : Bool) (begun : Sha256Challenger F) → Request → List (List ℕ)
      → Sha256Challenger F
  state_asked hides begun request commitments = bound f begun
      (context_listed (string_bytes request.context)) (parameters_in request.parameters)
      (zip_with (batch_asked hides) commitments request.commitments.items)

  module _ {Dom C D Proof Error ProverError : Type 0}
      (r : Scheme E C F Dom (List ℕ) D Proof Error ProverError)
      (t : StarkScheme E F Dom D ProverError) (hides : Bool) (shift_of : Dom → F)
      (log_size_of : Dom → ℕ) (begun : Option ℕ → Sha256Challenger F) where
    -- a request that can be opened, and what is to be opened of it: what is kept of each batch,
    -- what a verifier knows of that, and the state that is bound to the request, from that in which
    -- the challenger begins by the index of the preprocessed batch
    pub record IsPrepared (request : Request) (p : Prepared D Dom E (Sha256Challenger F))
        : Type 0 where
      pub well_formed : CanOpen f hides request
      pub keeps : AllZip (Keeps f r t hides shift_of log_size_of) p.committed.items
          request.commitments.items
      pub commitments :
          map (λ k. k.commitment) p.known.items ≡ map (λ c. c.commitment) p.committed.items
      pub domains :
          map (λ k. k.domains.items) p.known.items ≡ map (λ c. c.domains.items) p.committed.items
      pub points : ArePoints f (nested p.points.items) request.commitments.items
      pub named : NamesPreprocessed p.preprocessing request.commitments.items
      pub state : p.challenger ≡ state_asked hides (begun p.preprocessing) request
          (map (λ c. c.commitment) p.committed.items)
