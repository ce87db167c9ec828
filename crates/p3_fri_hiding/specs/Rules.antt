-- What the hiding scheme over two-adic fields opens, accepts and refuses, and what it has for a
-- STARK.
use Rattle.std.specs.Prelude.{◌≡◌, ◌≤◌, ◌+◌, ◌/◌, ◌^◌, ℕ, List, map, length, All}
use Rattle.rand_core.specs.Stream.{Stream}
use Rattle.p3_matrix.specs.declared.dense.RowMajorMatrix.{RowMajorMatrix}
use Rattle.p3_matrix.specs.Matrix.{rows}
use Rattle.p3_pcs.specs.Scheme.{Scheme}
use Rattle.p3_stark_pcs.specs.Preprocessing.{AreOpenableAt}
use Rattle.p3_stark_pcs.specs.Scheme.{StarkScheme}
use Rattle.p3_fri_relation.specs.declared.error.FriError.{FriError}
use Rattle.p3_fri_relation.specs.declared.error.FriError.TheVariants.{OutOfMemory}
use Rattle.p3_fri_relation.specs.Setting.{Proof}
use Rattle.p3_fri_openings.specs.Held.{HoldsWords}
use Rattle.p3_fri_openings.specs.SchemeClaims.{relation_claims}
use Rattle.p3_fri_masks.specs.declared.error.HidingFriProverError.{HidingFriProverError}
use Rattle.p3_fri_masks.specs.QuotientLdes.{AreMaskedChunks}
use Rattle.p3_fri_hiding_openings.specs.declared.data.HidingFriPcsProverData.{HidingFriPcsProverData}
use Rattle.p3_fri_hiding_openings.specs.Budgets.{MaskRefusal}
use Rattle.p3_fri_hiding_openings.specs.Data.{AreWide, CanRead, CanReadWhole, IsOfScheme}
use Rattle.p3_fri_hiding_openings.specs.Data.{IsPreprocessing, IsUnopened, shown_polynomials}
use Rattle.p3_fri_hiding_openings.specs.Ends.{last_state}
use Rattle.p3_fri_hiding_openings.specs.Evaluations.{HoldsWordsAt}
use Rattle.p3_fri_hiding_openings.specs.Held.{IsSubgroupSize}
use Rattle.p3_fri_hiding_openings.specs.Hiding.{HidingAccepts, StandsInHidingScheme}
use Rattle.p3_fri_hiding_openings.specs.Hiding.{LeavesHidingVerifier}
use Rattle.p3_fri_hiding_openings.specs.Ldes.{HasLdeHeight}
use Rattle.p3_fri_hiding_openings.specs.Opening.{PassesHidingChecks, HidingRefusal}
use Rattle.p3_fri_hiding_openings.specs.Opening.{LeavesHidingState}
use Rattle.p3_fri_hiding_openings.specs.RandomValues.{with_random_values}
use Rattle.p3_fri_hiding_openings.specs.Ranges.{InProverRange, InVerifierRange}
use Rattle.p3_fri_hiding_openings.specs.Requests.{after_opening}
use Rattle.p3_fri_hiding_openings.specs.Setting.{OpeningSetting, held, IsHonest}
use Rattle.p3_fri_hiding_openings.specs.Shown.{shown_in}
use Rattle.p3_fri_hiding.specs.Quotients.{CanExtend}
use Rattle.p3_fri_hiding.specs.Trace.{FitsMasked, HasTrace}

-- with so many random codewords, where data and openings of the matrices inside are those of the
-- two-adic scheme
module _ {F E C D Data Com Path InCom InPath : Type 0} (num_random : ℕ)
    (r : OpeningSetting F E C D Data Com Path InCom InPath) where
  -- why matrices whose masks have these heights are refused
  abbrev pub RefusesHeights : (heights : List ℕ) → HidingFriProverError → Type 0
  RefusesHeights heights e =
      MaskRefusal num_random r.parameters.num_queries r.setting.fields.degree heights e

  -- the matrices that are handed in are as high as the masks between their rows
  abbrev pub RefusesMatrices : {Domain : Type 0} → List (Domain × RowMajorMatrix F)
      → HidingFriProverError → Type 0
  RefusesMatrices evaluations e = RefusesHeights (map (λ e. length (rows e.1)) evaluations) e

-- over domains with these shifts and log sizes
module _ {F E C D Data Domain Com Path InCom InPath : Type 0} (shift : Domain → F)
    (log_size : Domain → ℕ) (num_random : ℕ)
    (r : OpeningSetting F E C D Data Com Path InCom InPath) where
  -- what the scheme has for a STARK, where `from_word` is the element of a random word
  abbrev pub hiding_stark_rules : (from_word : ℕ → F)
      → StarkScheme E F Domain (HidingFriPcsProverData D) HidingFriProverError
  hiding_stark_rules from_word = record {
    least_log_height = 0;
    greatest_log_height = r.setting.fields.two_adicity;
    CanOpenPreprocessed = λ d. IsPreprocessing r.setting.fields r.committed
        r.parameters.log_blowup num_random d;
    CanOpenAt = λ index asked. AreOpenableAt
        (IsUnopened r.setting.fields r.committed r.parameters.log_blowup num_random)
        (IsPreprocessing r.setting.fields r.committed r.parameters.log_blowup num_random)
        (shown_polynomials r.setting.fields r.committed r.parameters.log_blowup num_random)
        index asked;
    PreprocessingRefuses = λ evaluations e. RefusesMatrices num_random r evaluations e;
    CanCommitLdes = λ ldes.
        All (HasLdeHeight r.setting.fields.two_adicity r.parameters.log_blowup) ldes;
    CanOpenLdes = λ ldes. AreWide num_random ldes;
    AreLdes = λ ldes. All (HoldsWords r.setting.fields r.parameters.log_blowup) ldes;
    LdesRefuse = λ ldes e. RefusesHeights num_random r
        (map (λ lde. length (rows lde) / 2 ^ r.parameters.log_blowup / 2) ldes) e;
    polynomials_of = λ m. shown_in r.setting.fields r.parameters.log_blowup num_random m;
    CanExtend = λ evaluations num_chunks. CanExtend r.setting.fields.base shift log_size
        r.setting.fields.two_adicity r.parameters.log_blowup evaluations num_chunks;
    ExtendQuotients = λ evaluations ldes. (words : Stream)
        × AreMaskedChunks r.setting.fields.base shift log_size from_word num_random evaluations
        words r.setting.fields.root r.setting.fields.shift r.parameters.log_blowup ldes;
    QuotientsRefuse = λ evaluations e. RefusesMatrices num_random r evaluations e;
    IsReadable = λ d. IsOfScheme r.setting.fields r.committed r.parameters.log_blowup
        num_random d;
    CanEvaluate = λ d index _. CanRead r.setting.fields r.committed r.parameters.log_blowup
        num_random d index;
    CanEvaluateWhole = λ d index _. CanReadWhole r.setting.fields r.committed
        r.parameters.log_blowup num_random d index;
    IsHonestAt = λ d index.
        HoldsWordsAt r.setting.fields r.parameters.log_blowup (r.committed d.inner) index;
    whole_polynomials = λ d. held r d.inner;
    CanRandomize = λ domains. All
        (λ d. log_size d + r.parameters.log_blowup ≤ r.setting.fields.two_adicity) domains;
    random_columns = r.setting.fields.degree;
    RandomizationRefuses = λ domains e.
        RefusesHeights num_random r (map (λ d. 2 ^ log_size d / 2) domains) e;
  }

-- and over proofs of which these are the random values, and the proof of the claims with them
module _ {F E C D Data Domain Com Path InCom InPath Shown A B : Type 0} (shift : Domain → F)
    (log_size : Domain → ℕ) (random_of : Shown → List (List (List (List E))))
    (proof_of : Shown → Proof F E Com Path InPath) (num_random : ℕ)
    (r : OpeningSetting F E C D Data Com Path InCom InPath) where
  -- what the scheme opens, accepts and refuses
  abbrev pub hiding_rules : Scheme E C F Domain InCom (HidingFriPcsProverData D) Shown
      (FriError A B) HidingFriProverError
  hiding_rules = record {
    domain_size = λ d. 2 ^ log_size d;
    HasDomain = λ n. IsSubgroupSize r.setting.fields.two_adicity n;
    commitment_of = λ d. r.commitment_of d.inner;
    committed_polynomials = λ d. shown_polynomials r.setting.fields r.committed
        r.parameters.log_blowup num_random d;
    CanOpen = λ d. IsUnopened r.setting.fields r.committed r.parameters.log_blowup
        num_random d;
    IsHonest = λ d. IsHonest r d.inner;
    after_opening = λ d. after_opening d;
    CanCommit = λ evaluations. All (λ e. FitsMasked r.setting.fields.two_adicity
        r.parameters.log_blowup (log_size e.0) e.1) evaluations;
    Extends = λ m e. HasTrace r.setting.fields (shift e.0) (log_size e.0) e.1 m;
    CommitRefuses = λ evaluations e. RefusesMatrices num_random r evaluations e;
    InProverRange = InProverRange r.parameters r.setting.fields.two_adicity r.most_bits;
    InVerifierRange = InVerifierRange r.parameters r.setting.fields.two_adicity r.most_bits;
    PassesChecks = λ _ asked.
        PassesHidingChecks r.setting.fields r.parameters num_random r.committed asked;
    Refuses = λ _ c asked e. HidingRefusal r num_random c asked e;
    LeavesState = λ e. LeavesHidingState e;
    Accepts = λ index c claims proof. HidingAccepts r.setting r.parameters num_random index
        (relation_claims log_size claims) (random_of proof) (proof_of proof) c;
    last_state = λ _ c claims proof. last_state r.setting r.parameters
        (with_random_values (relation_claims log_size claims) (random_of proof))
        (proof_of proof) c;
    IsTrueRefusal = λ index claims proof c e. StandsInHidingScheme r.setting r.parameters
        num_random index (relation_claims log_size claims) (random_of proof) (proof_of proof)
        c e;
    LeavesVerifier = λ e. LeavesHidingVerifier e;
    out_of_memory = OutOfMemory;
  }
