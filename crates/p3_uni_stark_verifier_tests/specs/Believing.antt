-- A scheme that believes openings of a number of claims.
use Rattle.std.specs.Prelude.{◌≡◌, ◌≢◌, ◌⊎◌, ◌^◌, ℕ, ⊤, [], length}
use Rattle.std.proofs.Common.{inl, inr, refl}
use Rattle.p3_pcs.specs.Requests.{Held}
use Rattle.p3_pcs.specs.Scheme.{Scheme, IsLawful}
use Rattle.p3_stark_pcs.specs.Heights.{IsTraceHeight}
use Rattle.p3_stark_pcs.specs.Scheme.{StarkScheme, IsLawfulStark, IsPlain, AreKeptStark}
use Rattle.p3_uni_stark_verifier_tests.specs.declared.belief.Belief.{Belief}
use Rattle.p3_uni_stark_verifier_tests.specs.declared.belief.Disbelief.{Disbelief}
use Rattle.p3_uni_stark_verifier_tests.specs.declared.belief.Disbelief.TheVariants.{WrongCount}
use Rattle.p3_uni_stark_verifier_tests.specs.declared.belief.Disbelief.TheVariants.{OutOfMemory}
use Rattle.p3_uni_stark_verifier_tests.specs.declared.belief.NoProver.{NoProver}

-- why an opening of so many claims is refused
abbrev pub DisbeliefOf : (claims believed : ℕ) → Disbelief → Type 0
DisbeliefOf claims believed WrongCount = claims ≢ believed
DisbeliefOf claims believed OutOfMemory = ⊥

pub disbelief_cases : (e : Disbelief) → (e ≡ OutOfMemory) ⊎ (e ≢ OutOfMemory)
disbelief_cases WrongCount = inr (λ p. cc)
disbelief_cases OutOfMemory = inl refl

-- a matrix of no columns
abbrev pub no_polynomials : {E : Type 0} → Held E
no_polynomials = record { size = 0; values_at = λ z. [] }

-- it offers nothing to a STARK
abbrev pub believing_stark_rules : {E V Dom Com : Type 0} → StarkScheme E V Dom Com NoProver
believing_stark_rules = record {
  least_log_height = 0;
  greatest_log_height = 0;
  CanOpenPreprocessed = λ _. ⊥;
  CanOpenAt = λ _ _. ⊤;
  PreprocessingRefuses = λ _ _. ⊤;
  CanCommitLdes = λ _. ⊤;
  CanOpenLdes = λ _. ⊤;
  AreLdes = λ _. ⊤;
  LdesRefuse = λ _ _. ⊤;
  polynomials_of = λ _. no_polynomials;
  CanExtend = λ _ _. ⊤;
  ExtendQuotients = λ _ _. ⊤;
  QuotientsRefuse = λ _ _. ⊤;
  IsReadable = λ _. ⊤;
  CanEvaluate = λ _ _ _. ⊤;
  CanEvaluateWhole = λ _ _ _. ⊤;
  IsHonestAt = λ _ _. ⊤;
  whole_polynomials = λ _. [];
  CanRandomize = λ _. ⊤;
  random_columns = 0;
  RandomizationRefuses = λ _ _. ⊤;
}

-- over domains of these log sizes, elements of two fields, and states of a challenger
module _ {E C V Dom Com : Type 0} (log_size : Dom → ℕ) where
  abbrev pub believing_rules : Scheme E C V Dom Com Com Belief Disbelief NoProver
  believing_rules = record {
    domain_size = λ d. 2 ^ log_size d;
    HasDomain = λ n. IsTraceHeight 0 0 n;
    commitment_of = λ d. d;
    committed_polynomials = λ _. [];
    CanOpen = λ _. ⊥;
    IsHonest = λ _. ⊤;
    after_opening = λ d. d;
    CanCommit = λ _. ⊤;
    Extends = λ _ _. ⊥;
    CommitRefuses = λ _ _. ⊤;
    InProverRange = ⊤;
    InVerifierRange = ⊤;
    PassesChecks = λ _ _. ⊥;
    Refuses = λ _ _ _ _. ⊤;
    LeavesState = λ _. ⊤;
    Accepts = λ _ _ claims belief. length claims ≡ belief.claims;
    last_state = λ _ c _ _. c;
    IsTrueRefusal = λ _ claims belief _ e. DisbeliefOf (length claims) belief.claims e;
    LeavesVerifier = λ _. ⊤;
    out_of_memory = OutOfMemory;
  }

  pub believing_lawful : IsLawful believing_rules
  believing_lawful = record {
    extends_size = λ m e h. absurd h;
    extends_columns = λ m e h. absurd h;
    opened_commitment = λ d. refl;
    opened_polynomials = λ d. refl;
    opened_honest = λ d h. h;
    memory = disbelief_cases;
  }

  pub believing_lawful_stark : IsLawfulStark believing_rules believing_stark_rules
  believing_lawful_stark = record {
    heights = λ n. (λ h. h, λ h. h);
    openable = λ index asked h. tt;
    openable_readable = λ d h. tt;
    preprocessed_readable = λ d h. tt;
    opened_readable = λ d h. tt;
    preprocessed_again = λ d h. h;
    evaluable = λ d index domain h k. tt;
    evaluable_whole = λ d index domain h k. tt;
    honest_at = λ d index h k. tt;
    whole = λ d. tt;
  }

  pub believing_plain : IsPlain believing_rules believing_stark_rules
  believing_plain = record {
    of_data = λ d. (λ h. h, λ h. h);
    commit = λ es e. (λ h. h, λ h. h);
    openable = λ index asked h. tt;
    checks = λ index asked. (λ h. h, λ h. h);
    refuses = λ index c asked e. (λ h. h, λ h. h);
    accepts = λ index c claims proof. (λ h. h, λ h. h);
    state = λ index c claims proof. refl;
    faults = λ index claims proof c e. (λ h. h, λ h. h);
    evaluable = λ d index domain. (λ h. h, λ h. h);
    whole = λ d. refl;
  }

pub stark_kept : {E V Dom Com : Type 0} → AreKeptStark {E = E} {V = V} {Dom = Dom} {D = Com}
    believing_stark_rules believing_stark_rules
stark_kept = record {
  preprocessed = λ d h. h;
  readable = λ d h. h;
  extendable = λ es n h. h;
  words = λ m. refl;
  committable = λ ldes h. h;
  openable = λ ldes h. h;
  low_degree = λ ldes h. h;
  randomizable = λ domains h. h;
  random = refl;
  preprocessing_refusals = λ es e h. h;
  quotient_refusals = λ es e h. h;
  lde_refusals = λ ldes e h. h;
  random_refusals = λ domains e h. h;
}
