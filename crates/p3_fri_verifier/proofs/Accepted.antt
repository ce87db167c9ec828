-- The test accepts, from its parts.
use Rattle.std.proofs.Common.{◌≡◌, ℕ, ◌+◌, ◌^◌, ◌<◌, ◌⊎◌, inl, inr, List, length, map, get_or, refl, sym, ap, ◌∙◌, subst}
use Rattle.std.specs.Prelude.{All, IsTrue, IfErr, Result, Err}
use Rattle.std.proofs.lemmas.List.{length-map, get_or_default}
use Rattle.p3_matrix.specs.declared.Dimensions.{Dimensions}
use Rattle.p3_mmcs.specs.Batch.{HasShape}
use Rattle.p3_mmcs.proofs.Shapes.{sets_count}
use Rattle.p3_fri_pow.specs.Counts.{IsWrongCount}
use Rattle.p3_fri_folding.specs.declared.pow_phase.PowPhase.{PowPhase}
use Rattle.p3_fri_folding.specs.declared.pow_phase.PowPhase.TheVariants.{CommitPhase, Query}
use Rattle.p3_fri_transcript.specs.Steps.{FriNumbers}
use Rattle.p3_fri_transcript.specs.Replay.{FriReplay}
use Rattle.p3_fri_relation.specs.declared.error.FriError.{FriError}
use Rattle.p3_fri_relation.specs.declared.error.FriError.TheVariants.{InvalidPowWitness, NonCanonicalPowWitness, OutOfMemory}
use Rattle.p3_fri_relation.specs.Setting.{Setting, Parameters, CommitmentClaim, InputOpening, Proof}
use Rattle.p3_fri_relation.specs.Heights.{dimensions, opened_index}
use Rattle.p3_fri_relation.specs.Inputs.{OpensInput}
use Rattle.p3_fri_relation.specs.TestRounds.{bound_numbers}
use Rattle.p3_fri_relation.specs.Acceptance.{FriAccepts, AreCanonical, AreOpeningsGood, test_replay, positions, fri_numbers, top_height, log_arities}
use Rattle.p3_fri_relation.specs.Faults.{At, Stands, InstanceFault, CountFault, InputFault, OpeningsFault, WorkFault}
use Rattle.p3_fri_relation.proofs.TestReplays.{length-replay_betas, length-positions, positions-below}
use Rattle.p3_fri_verifier.specs.Counts.{HasInputs, InputCountFault}
use Rattle.p3_fri_inputs.proofs.Refutations.{all_zip_right}
use Rattle.p3_fri_verifier.specs.Draws.{proof_replay, ReplayFault, AreDrawn}
use Rattle.p3_fri_verifier.specs.Openings.{AreOpened}
use Rattle.p3_fri_verifier.specs.Plans.{CanBegin, BeginningFault}

-- the test passes from this state: these are its challenges and its positions, and the state after it
pub record IsDrawn {F E C Com Path InCom InPath : Type 0} (s : Setting F E C Com Path InCom InPath) (p : Parameters)
    (claims : List (CommitmentClaim E InCom)) (proof : Proof F E Com Path InPath) (c : C) (betas : List E)
    (places : List ℕ) (after : C) : Type 0 where
  pub passes : IsTrue (test_replay s p claims proof c).passes
  pub betas_are : (test_replay s p claims proof c).betas ≡ betas
  pub positions_are : positions s p claims proof c ≡ places
  pub state_is : (test_replay s p claims proof c).state ≡ after
  pub below : All (λ index. index < 2 ^ (top_height p claims + s.extra_bits)) (test_replay s p claims proof c).indices

module _ {F E C Com Path InCom InPath : Type 0} (s : Setting F E C Com Path InCom InPath) (p : Parameters)
    (claims : List (CommitmentClaim E InCom)) (proof : Proof F E Com Path InPath) (c : C) (alpha : E) where
  -- rows that a scheme takes for a commitment's are a set for each query
  module _ (shape : (commitment : InCom) (dims : List Dimensions) (indices : List ℕ) (sets : List (List (List F)))
      (path : InPath) → s.opens_input commitment dims indices sets path → HasShape dims indices sets) where
    sets_opened : (places : List ℕ) (claim : CommitmentClaim E InCom) (o : InputOpening F InPath)
        → OpensInput s.opens_input p.log_blowup (top_height p claims) places claim o → length o.rows ≡ length places
    sets_opened places claim o h =
        let dims = map (dimensions p.log_blowup) claim.matrices in
        let indices = map (opened_index p.log_blowup (top_height p claims) claim.matrices) places in
        sets_count dims indices o.rows (shape claim.commitment dims indices o.rows o.path h)
        ∙ length-map places (opened_index p.log_blowup (top_height p claims) claim.matrices)

    inputs_counted : FriAccepts s p claims proof c alpha → HasInputs p.num_queries (length claims) proof.inputs
    inputs_counted a = record {
      count = a.counts.inputs;
      rows = λ k d l.
          let o = get_or proof.inputs k d in
          let places = positions s p claims proof c in
          let opened = all_zip_right (OpensInput s.opens_input p.log_blowup (top_height p claims) places) claims proof.inputs
          a.openings.inputs_open k o l (get_or_default proof.inputs k o d l) in
          sets_opened places opened.0 o opened.1 ∙ length-positions s p claims proof c;
    }

    pub can_begin : FriAccepts s p claims proof c alpha → CanBegin p claims proof s.fields.two_adicity
    can_begin a = record {
      in_range = a.instance_of.in_range;
      counts = record {
        commitments = a.counts.commitments;
        commit_witnesses = a.counts.commit_witnesses;
        rounds = a.counts.rounds;
        inputs = refl;
        final_poly = a.counts.final_poly;
      };
      inputs = inputs_counted a;
    }

  -- a wrong number of openings, or of their rows, is a fault of the openings wherever the queries are
  input_count_stands : {A B : Type 0} (e : FriError A B) → InputCountFault p.num_queries (length claims) proof.inputs e
      → InputFault s.fields p.log_blowup alpha (top_height p claims) claims proof.inputs s.opens_input (positions s p claims proof c) e
  input_count_stands {A} {B} e (inl h) =
      subst (λ (x : FriError A B). InputFault s.fields p.log_blowup alpha (top_height p claims) claims proof.inputs
      s.opens_input (positions s p claims proof c) x) (sym h.2) h.3
  input_count_stands {A} {B} e (inr h) =
      subst (λ (x : FriError A B). InputFault s.fields p.log_blowup alpha (top_height p claims) claims proof.inputs
      s.opens_input (positions s p claims proof c) x) (sym h.3)
      (subst (λ (n : ℕ). At h.0 (λ o. IsWrongCount n (length o.rows) h.1 h.2) proof.inputs)
      (sym (length-positions s p claims proof c)) h.4)

  pub beginning_stands : {A B : Type 0} (e : FriError A B)
      → BeginningFault p claims proof s.fields.two_adicity e ⊎ (e ≡ OutOfMemory)
      → Stands s p claims proof c alpha e
  beginning_stands e (inl (inl h)) = inl h
  beginning_stands e (inl (inr (inl h))) = inr (inl h)
  beginning_stands e (inl (inr (inr h))) = inr (inr (inr (inl (inl (input_count_stands e h)))))
  beginning_stands e (inr h) = inr (inr (inr (inr h)))

  -- the replay of a test of these numbers
  abbrev replay_of : FriNumbers → FriReplay C E
  replay_of n = proof_replay s.moves s.fields.coefficients s.fields.base s.fields.degree n proof c

  abbrev Fault : {A B : Type 0} → FriError A B → FriNumbers → Type 0
  Fault e n = ReplayFault s.moves s.fields.coefficients s.fields.base s.fields.degree n proof c e

  fault_stands : {A B : Type 0} (e : FriError A B) → Fault e (fri_numbers p claims s.extra_bits)
      → Stands s p claims proof c alpha e
  fault_stands e (inl is) = inr (inr (inr (inr is)))
  fault_stands {A} {B} e (inr (inl o)) = inr (inr (inl (subst (λ (x : FriError A B). WorkFault s p claims proof c x) (sym o.0) o.1)))
  fault_stands {A} {B} e (inr (inr o)) = inr (inr (inl (subst (λ (x : FriError A B). WorkFault s p claims proof c x) (sym o.0) o.1)))

  -- a plan's numbers are the test's, and so is what is replayed of them
  module _ {la : List ℕ} {top extra_bits : ℕ} (scheduled : la ≡ log_arities p claims)
      (tallest : top ≡ top_height p claims) (extra : extra_bits ≡ s.extra_bits) where
    numbers_are : bound_numbers p la top extra_bits ≡ fri_numbers p claims s.extra_bits
    numbers_are = ap (λ xs. bound_numbers p xs top extra_bits) scheduled
        ∙ ap (λ h. bound_numbers p (log_arities p claims) h extra_bits) tallest
        ∙ ap (λ bits. bound_numbers p (log_arities p claims) (top_height p claims) bits) extra

    pub same_test : replay_of (bound_numbers p la top extra_bits) ≡ test_replay s p claims proof c
    same_test = ap (λ n. replay_of n) numbers_are

    pub work_stands : {A B : Type 0} (e : FriError A B) → Fault e (bound_numbers p la top extra_bits)
        → Stands s p claims proof c alpha e
    work_stands e h = fault_stands e (subst (λ n. Fault e n) numbers_are h)

    -- where lists are equal to those that were drawn
    pub drawn_in_test : {betas bs : List E} {places qs : List ℕ} {after : C}
        → AreDrawn (bound_numbers p la top extra_bits) extra_bits (replay_of (bound_numbers p la top extra_bits)) bs qs after
        → betas ≡ bs → places ≡ qs → IsDrawn s p claims proof c betas places after
    drawn_in_test {betas} {bs} {places} {qs} {after} h same at =
        let drawn : AreDrawn (fri_numbers p claims s.extra_bits) s.extra_bits (test_replay s p claims proof c) bs qs after =
        subst (λ bits. AreDrawn (fri_numbers p claims s.extra_bits) bits (test_replay s p claims proof c) bs qs after) extra
        (subst (λ n. AreDrawn n extra_bits (replay_of n) bs qs after) numbers_are h) in
        record {
          passes = drawn.passes;
          betas_are = drawn.betas_are ∙ sym same;
          positions_are = drawn.positions_are ∙ sym at;
          state_is = drawn.state_is;
          below = drawn.below;
        }

module _ {F E C Com Path InCom InPath : Type 0} {s : Setting F E C Com Path InCom InPath} {p : Parameters}
    {claims : List (CommitmentClaim E InCom)} {proof : Proof F E Com Path InPath} {c : C} {betas : List E}
    {places : List ℕ} {after : C} (drawn : IsDrawn s p claims proof c betas places after) where
  pub accepts_from : {alpha : E} → CanBegin p claims proof s.fields.two_adicity → AreCanonical p proof s.fields.base.zero
      → AreOpened s p claims proof alpha betas places → FriAccepts s p claims proof c alpha
  accepts_from {alpha} b canonical o = record {
    instance_of = record { in_range = b.in_range; points = o.points };
    counts = record {
      commitments = b.counts.commitments;
      commit_witnesses = b.counts.commit_witnesses;
      rounds = b.counts.rounds;
      inputs = o.count;
      final_poly = b.counts.final_poly;
    };
    canonical = canonical;
    passes = drawn.passes;
    openings = subst (λ xs. AreOpeningsGood s p claims proof alpha xs (positions s p claims proof c)) (sym drawn.betas_are)
        (subst (λ xs. AreOpeningsGood s p claims proof alpha betas xs) (sym drawn.positions_are) o.good);
  }

  pub opened_of : {alpha : E} → FriAccepts s p claims proof c alpha → AreOpened s p claims proof alpha betas places
  opened_of {alpha} a = record {
    points = a.instance_of.points;
    count = a.counts.inputs;
    good = subst (λ xs. AreOpeningsGood s p claims proof alpha betas xs) drawn.positions_are
        (subst (λ xs. AreOpeningsGood s p claims proof alpha xs (positions s p claims proof c)) drawn.betas_are a.openings);
  }

  pub openings_stand : {A B : Type 0} (alpha : E) (e : FriError A B)
      → OpeningsFault s p claims proof alpha betas places e ⊎ (e ≡ OutOfMemory) → Stands s p claims proof c alpha e
  openings_stand alpha e (inl h) = inr (inr (inr (inl
      (subst (λ xs. OpeningsFault s p claims proof alpha xs (positions s p claims proof c) e) (sym drawn.betas_are)
      (subst (λ xs. OpeningsFault s p claims proof alpha betas xs e) (sym drawn.positions_are) h)))))
  openings_stand alpha e (inr h) = inr (inr (inr (inr h)))

  pub challenges_drawn : CanBegin p claims proof s.fields.two_adicity
      → length betas ≡ length (log_arities p claims)
  challenges_drawn b = ap length (sym drawn.betas_are)
      ∙ length-replay_betas s p claims proof c (b.counts.commitments ∙ sym b.counts.commit_witnesses)
      ∙ b.counts.commitments

  pub positions_drawn : length places ≡ p.num_queries
  positions_drawn = ap length (sym drawn.positions_are) ∙ length-positions s p claims proof c

  pub within_word : All (λ position. position < 2 ^ top_height p claims) places
  within_word = subst (λ xs. All (λ position. position < 2 ^ top_height p claims) xs) drawn.positions_are
      (positions-below s p claims proof c drawn.below)

-- neither a beginning nor a replay nor openings are refused for a witness that isn't canonical
pub beginning_canonical : {F E Com Path InCom InPath A B : Type 0} (p : Parameters) (claims : List (CommitmentClaim E InCom))
    (proof : Proof F E Com Path InPath) (two_adicity : ℕ) (e : FriError A B) (phase : PowPhase) → e ≡ NonCanonicalPowWitness phase
    → BeginningFault p claims proof two_adicity e ⊎ (e ≡ OutOfMemory) → ⊥
beginning_canonical {A = A} {B} p claims proof two_adicity e phase is (inl (inl h)) =
    subst (λ (x : FriError A B). InstanceFault p claims two_adicity x) is h
beginning_canonical {A = A} {B} p claims proof two_adicity e phase is (inl (inr (inl h))) =
    subst (λ (x : FriError A B). CountFault p (log_arities p claims) proof x) is h
beginning_canonical p claims proof two_adicity e phase is (inl (inr (inr (inl h)))) = let because = h.2 in cc
beginning_canonical p claims proof two_adicity e phase is (inl (inr (inr (inr h)))) = let because = h.3 in cc
beginning_canonical p claims proof two_adicity e phase is (inr h) = cc

pub replay_canonical : {A B X Y : Type 0} (e : FriError A B) (phase : PowPhase) → e ≡ NonCanonicalPowWitness phase
    → (e ≡ OutOfMemory) ⊎ ((e ≡ InvalidPowWitness CommitPhase) × X) ⊎ ((e ≡ InvalidPowWitness Query) × Y) → ⊥
replay_canonical e phase is (inl h) = cc
replay_canonical e phase is (inr (inl h)) = let because = h.0 in cc
replay_canonical e phase is (inr (inr h)) = let because = h.0 in cc

pub openings_canonical : {F E C Com Path InCom InPath A B X : Type 0} (s : Setting F E C Com Path InCom InPath) (p : Parameters)
    (claims : List (CommitmentClaim E InCom)) (proof : Proof F E Com Path InPath) (alpha : E) (betas : List E) (positions : List ℕ)
    (r : Result X (FriError A B)) (phase : PowPhase) → r ≡ Err (NonCanonicalPowWitness phase)
    → IfErr r (λ e. OpeningsFault s p claims proof alpha betas positions e ⊎ (e ≡ OutOfMemory)) → ⊥
openings_canonical {A = A} {B} {X} s p claims proof alpha betas positions r phase is h =
    none (subst (λ (q : Result X (FriError A B)). IfErr q (λ e. OpeningsFault s p claims proof alpha betas positions e ⊎ (e ≡ OutOfMemory))) is h)
  where
    none : OpeningsFault {A = A} {B = B} s p claims proof alpha betas positions (NonCanonicalPowWitness phase)
        ⊎ (◌≡◌ {A = FriError A B} (NonCanonicalPowWitness phase) OutOfMemory) → ⊥
    none (inl (inl f)) = f
    none (inl (inr f)) = f
    none (inr e) = cc
