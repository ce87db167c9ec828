-- What can be told before the transcript of a test begins.
use Rattle.std.specs.Prelude.{◌⊎◌, ℕ, List, length}
use Rattle.p3_fri_relation.specs.declared.error.FriError.{FriError}
use Rattle.p3_fri_relation.specs.Setting.{Parameters, CommitmentClaim, Proof}
use Rattle.p3_fri_relation.specs.TestRounds.{HasCounts}
use Rattle.p3_fri_relation.specs.Acceptance.{IsInRange, log_arities}
use Rattle.p3_fri_relation.specs.Faults.{InstanceFault, CountFault}
use Rattle.p3_fri_verifier.specs.Counts.{HasInputs, InputCountFault}

module _ {F E Com Path InCom InPath : Type 0} (p : Parameters)
    (claims : List (CommitmentClaim E InCom)) (proof : Proof F E Com Path InPath)
    (two_adicity : ℕ) where
  -- the parameters and claims are in range, the proof's lists have their lengths, and each
  -- commitment has an opening, with a set of rows for each query
  pub record CanBegin : Type 0 where
    pub in_range : IsInRange p claims two_adicity
    pub counts : HasCounts p proof (log_arities p claims) (length proof.inputs)
    pub inputs : HasInputs p.num_queries (length claims) proof.inputs

  -- why it can't
  abbrev pub BeginningFault : {A B : Type 0} → FriError A B → Type 0
  BeginningFault e = InstanceFault p claims two_adicity e
      ⊎ CountFault p (log_arities p claims) proof e
      ⊎ InputCountFault p.num_queries (length claims) proof.inputs e
