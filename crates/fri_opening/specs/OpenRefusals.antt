-- Why any scheme that is made of parameters refuses to open a request.
use Rattle.std.specs.Prelude.{◌⊎◌, ℕ, Bool, List, Option, map}
use Rattle.std.specs.List.{AllZip}
use Rattle.p3_challenger_sha256.specs.declared.sha256_challenger.Sha256Challenger.{Sha256Challenger}
use Rattle.p3_pcs.specs.Scheme.{Scheme}
use Rattle.p3_stark_pcs.specs.Scheme.{StarkScheme}
use Rattle.fri_records.specs.declared.records.Request.{Request}
use Rattle.fri_statement.specs.Setting.{SchemeFields}
use Rattle.fri_commitments.specs.declared.committed.Committed.{Committed}
use Rattle.fri_commitments.specs.Committed.{Keeps}
use Rattle.fri_opening.specs.Openings.{requests_for}
use Rattle.fri_opening.specs.Prepared.{state_asked}
use Rattle.fri_commitments.specs.Preprocessing.{NamesPreprocessed}
use Rattle.fri_commitments.specs.Requests.{CanOpen, points_listed}
use Rattle.fri_commitments.specs.Refusals.{RefusesBatch}

module _ {F E : Type 0} (f : SchemeFields F E) {P Dom D Proof Error ProverError : Type 0}
    (rules : P → Scheme E (Sha256Challenger F) F Dom (List ℕ) D Proof Error ProverError)
    (stark_rules : P → StarkScheme E F Dom D ProverError)
    (IsMemory : ProverError → Type 0) (IsScheme : P → Type 0) (hides : Bool)
    (shift_of : Dom → F) (log_size_of : Dom → ℕ) where
  -- what is kept of a request's batches, at the points that they list, the scheme refuses to open
  -- for this reason, from the state that is bound to the request
  pub record RefusesOpening (begun : Option ℕ → Sha256Challenger F) (request : Request)
      (e : ProverError) : Type 0 where
    pub scheme : P
    pub is_of : IsScheme scheme
    pub index : Option ℕ
    pub named : NamesPreprocessed index request.commitments.items
    pub kept : List (Committed D Dom)
    pub keeps : AllZip (Keeps f (rules scheme) (stark_rules scheme) hides shift_of log_size_of)
        kept request.commitments.items
    pub refused : (rules scheme).Refuses index
        (state_asked f hides (begun index) request (map (λ c. c.commitment) kept))
        (requests_for kept (points_listed f request.commitments.items)) e
    pub not_memory : ¬ IsMemory e

  -- a request that can be opened, and isn't
  pub record IsUnopened (begun : Option ℕ → Sha256Challenger F) (request : Request)
      (e : ProverError) : Type 0 where
    pub request_opens : CanOpen f hides request
    pub refused : RefusesBatch f rules stark_rules IsMemory IsScheme hides shift_of log_size_of
        request.commitments.items e
        ⊎ RefusesOpening begun request e
