-- What the scheme over two-adic fields opens, accepts and refuses, and what it has for a STARK.
use Rattle.std.specs.Prelude.{◌≡◌, ◌^◌, ℕ, All, ⊤}
use Rattle.std.specs.List.{AllZip}
use Rattle.std.specs.declared.vec.Vec.{Vec}
use Rattle.p3_pcs.specs.Requests.{AreOpenable}
use Rattle.p3_pcs.specs.Scheme.{Scheme}
use Rattle.p3_stark_pcs.specs.Scheme.{StarkScheme}
use Rattle.p3_fri_extensions.specs.Extension.{FitsDomain, IsLowDegreeExtension}
use Rattle.p3_fri_folding.specs.declared.error.FriProverError.{FriProverError}
use Rattle.p3_fri_folding.specs.declared.error.FriProverError.TheVariants as refusal
use Rattle.p3_fri_relation.specs.declared.error.FriError.{FriError}
use Rattle.p3_fri_relation.specs.declared.error.FriError.TheVariants as fault
use Rattle.p3_fri_relation.specs.declared.proof.BatchMultiOpening.{BatchMultiOpening}
use Rattle.p3_fri_relation.specs.declared.proof.FriProof.{FriProof}
use Rattle.p3_fri_relation.specs.Views.{proof_of}
use Rattle.p3_fri_relation.specs.Acceptance.{Accepts}
use Rattle.p3_fri_relation.specs.Faults.{StandsInScheme}
use Rattle.p3_fri_openings.specs.Held.{held_in, HoldsWords}
use Rattle.p3_fri_openings.specs.SchemeClaims.{relation_claims}
use Rattle.p3_fri_opening_verifier.specs.Ends.{last_state}
use Rattle.p3_fri_opening_verifier.specs.Accepted.{LeavesVerifier}
use Rattle.p3_fri_opening_prover.specs.Setting.{OpeningSetting, held}
use Rattle.p3_fri_opening_prover.specs.Setting.{StandsOnCosets, IsHonest}
use Rattle.p3_fri_opening_prover.specs.Refusals.{PassesChecks, OpenRefusal, LeavesState}
use Rattle.p3_fri_two_adic.specs.Evaluations.{IsMatrixOf, HoldsWordsAt}
use Rattle.p3_fri_two_adic.specs.Held.{IsSubgroupSize, Extends}
use Rattle.p3_fri_two_adic.specs.Ldes.{HasLdeHeight}
use Rattle.p3_fri_two_adic.specs.Ranges.{InProverRange, InVerifierRange}

-- over domains with these shifts and log sizes, and commitments with the errors `A` of rounds and
-- `B` of batches
module _ {F E C D Data Domain Com Path InCom InPath M InM A B X : Type 0} (shift : Domain → F)
    (log_size : Domain → ℕ) (r : OpeningSetting F E C D Data Com Path InCom InPath) where
  -- what the scheme opens, accepts and refuses
  abbrev pub two_adic_rules : Scheme E C F Domain InCom D
      (FriProof E M F (Vec (BatchMultiOpening F InM InCom D InPath B) X) Com Data Path A)
      (FriError A B) FriProverError
  two_adic_rules = record {
    domain_size = λ d. 2 ^ log_size d;
    HasDomain = λ n. IsSubgroupSize r.setting.fields.two_adicity n;
    commitment_of = r.commitment_of;
    committed_polynomials = λ d. held r d;
    CanOpen = λ d. StandsOnCosets r d;
    IsHonest = λ d. IsHonest r d;
    after_opening = λ d. d;
    CanCommit = λ evaluations. All (λ e. FitsDomain r.setting.fields.two_adicity
        r.parameters.log_blowup (log_size e.0) e.1) evaluations;
    Extends = λ m e. Extends r.setting.fields (shift e.0) (log_size e.0) e.1 m;
    CommitRefuses = λ _ e. e ≡ refusal.OutOfMemory;
    InProverRange = InProverRange r.parameters r.setting.fields.two_adicity r.most_bits;
    InVerifierRange = InVerifierRange r.parameters r.setting.fields.two_adicity r.most_bits;
    PassesChecks = λ _ asked. PassesChecks r.setting.fields r.parameters r.committed asked;
    Refuses = λ _ c asked e. OpenRefusal r c asked e;
    LeavesState = λ e. LeavesState e;
    Accepts = λ _ c claims proof.
        Accepts r.setting r.parameters (relation_claims log_size claims) (proof_of proof) c;
    last_state = λ _ c claims proof.
        last_state r.setting r.parameters (relation_claims log_size claims) (proof_of proof) c;
    IsTrueRefusal = λ _ claims proof c e. StandsInScheme r.setting r.parameters
        (relation_claims log_size claims) (proof_of proof) c e;
    LeavesVerifier = λ e. LeavesVerifier e;
    out_of_memory = fault.OutOfMemory;
  }

-- over domains with these shifts and log sizes
module _ {F E C D Data Domain Com Path InCom InPath : Type 0} (shift : Domain → F)
    (log_size : Domain → ℕ) (r : OpeningSetting F E C D Data Com Path InCom InPath) where
  -- what it has for a STARK: the index of preprocessing says nothing, and no column is random
  abbrev pub two_adic_stark_rules : StarkScheme E F Domain D FriProverError
  two_adic_stark_rules = record {
    least_log_height = 0;
    greatest_log_height = r.setting.fields.two_adicity;
    CanOpenPreprocessed = λ d. StandsOnCosets r d;
    CanOpenAt = λ _ asked. AreOpenable (λ d. StandsOnCosets r d) (λ d. held r d) asked;
    PreprocessingRefuses = λ _ e. e ≡ refusal.OutOfMemory;
    CanCommitLdes = λ ldes.
        All (HasLdeHeight r.setting.fields.two_adicity r.parameters.log_blowup) ldes;
    CanOpenLdes = λ _. ⊤;
    AreLdes = λ ldes. All (HoldsWords r.setting.fields r.parameters.log_blowup) ldes;
    LdesRefuse = λ _ e. e ≡ refusal.OutOfMemory;
    polynomials_of = λ m. held_in r.setting.fields r.parameters.log_blowup m;
    CanExtend = λ evaluations _. All (λ e. FitsDomain r.setting.fields.two_adicity
        r.parameters.log_blowup (log_size e.0) e.1) evaluations;
    ExtendQuotients = λ evaluations ldes. AllZip (λ matrix e. IsLowDegreeExtension
        r.setting.fields.base r.setting.fields.root r.setting.fields.shift r.parameters.log_blowup
        (shift e.0) (log_size e.0) e.1 matrix) ldes evaluations;
    QuotientsRefuse = λ _ e. e ≡ refusal.OutOfMemory;
    IsReadable = λ d. StandsOnCosets r d;
    CanEvaluate = λ d index _. IsMatrixOf r.setting.fields.two_adicity (r.committed d) index;
    CanEvaluateWhole = λ d index _. IsMatrixOf r.setting.fields.two_adicity (r.committed d) index;
    IsHonestAt = λ d index.
        HoldsWordsAt r.setting.fields r.parameters.log_blowup (r.committed d) index;
    whole_polynomials = λ d. held r d;
    CanRandomize = λ _. ⊤;
    random_columns = 0;
    RandomizationRefuses = λ _ _. ⊥;
  }
