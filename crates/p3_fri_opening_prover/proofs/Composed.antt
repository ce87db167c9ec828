-- An opening of rounds is one of the requests that they come of, and honest ones are accepted.
use Rattle.std.proofs.Common.{◌≡◌, ◌≤◌, ◌+◌, ◌^◌, ℕ, List, [], ◌∷◌, map, length, refl}
use Rattle.std.proofs.Common.{sym, ap, ◌∙◌, subst}
use Rattle.std.proofs.Common.{Result, Ok, Err}
use Rattle.std.specs.Prelude.{IfOk, IfErr}
use Rattle.std.specs.List.{AllZip}
use Rattle.std.proofs.lemmas.List.{length-map}
use Rattle.algebra.specs.Nested.{joined}
use Rattle.p3_pcs.specs.declared.requests.OpeningRequest.{OpeningRequest}
use Rattle.p3_pcs.specs.Requests.{Request, request, AreOpenable, AreHonest, FitDomains}
use Rattle.p3_pcs.specs.Requests.{honest_values}
use Rattle.p3_fri_folding.specs.declared.error.FriProverError.{FriProverError}
use Rattle.p3_fri_folding.specs.declared.error.FriProverError.TheVariants.{InputHeightTooSmall}
use Rattle.p3_fri_folding.specs.declared.error.FriProverError.TheVariants.{FinalHeightOverflow}
use Rattle.p3_fri_folding.specs.declared.error.FriProverError.TheVariants.{PointInEvaluationDomain}
use Rattle.p3_fri_folding.specs.declared.error.FriProverError.TheVariants.{NoPowWitness, OutOfMemory}
use Rattle.p3_fri_pcs_transcript.specs.Replay.{BatchReplay}
use Rattle.p3_fri_relation.specs.Setting.{Proof, InputOpening}
use Rattle.p3_fri_relation.specs.Acceptance.{Accepts, batch_replayed, test_replay}
use Rattle.p3_fri_openings.specs.declared.round.OpeningRound.{OpeningRound}
use Rattle.p3_fri_openings.specs.Opened.{values_asked}
use Rattle.p3_fri_openings.specs.Requests.{round_request, matrices_request}
use Rattle.p3_fri_batch.specs.Words.{Opened}
use Rattle.p3_fri_batch.specs.Rounds.{opened_of}
use Rattle.p3_fri_prover.specs.Openings.{OpensBatch}
use Rattle.p3_fri_prover.specs.Proved.{IsProved, positions}
use Rattle.p3_fri_completeness.specs.Honest.{AreTwoAdic, DrawsFit}
use Rattle.p3_fri_completeness.specs.Requests.{round_opened}
use Rattle.p3_fri_completeness.proofs.Rounds.{opened_by_request, values_by_request}
use Rattle.p3_fri_completeness.proofs.Opening.{opening_accepted, opening_last_state}
use Rattle.p3_fri_opening_prover.specs.Ranges.{IsInOpeningRange}
use Rattle.p3_fri_opening_prover.specs.Setting.{OpeningSetting, StandsOnCosets, IsHonest, held}
use Rattle.p3_fri_opening_prover.specs.Opening.{heights, top, words, batch}
use Rattle.p3_fri_opening_prover.specs.Opening.{IsOpening, OpeningStops}
use Rattle.p3_fri_opening_prover.specs.Opened.{IsOpened, claims_asked}
use Rattle.p3_fri_opening_prover.specs.Refusals.{PassesChecks, RequestsStop, OpenRefusal}
use Rattle.p3_fri_opening_prover.specs.Refusals.{LeavesState}
use Rattle.algebra.proofs.Lists.{map-map}

-- the same of what is read of the data
pub read_alike : {D B X Y : Type 0} (f : D → B) (xs : List X) (ys : List Y) (g : X → D) (h : Y → D)
    → map g xs ≡ map h ys → map (λ x. f (g x)) xs ≡ map (λ y. f (h y)) ys
read_alike f xs ys g h same =
    sym (map-map f g xs) ∙ ap (λ ds. map f ds) same ∙ map-map f h ys

zip_unmapped : {X D Z : Type 0} (g : X → D) (R : D → Z → Type 0) (xs : List X) (zs : List Z)
    → AllZip R (map g xs) zs → AllZip (λ x z. R (g x) z) xs zs
zip_unmapped g R [] [] h = tt
zip_unmapped g R [] (z ∷ zs) h = absurd h
zip_unmapped g R (x ∷ xs) [] h = absurd h
zip_unmapped g R (x ∷ xs) (z ∷ zs) h = (h.0, zip_unmapped g R xs zs h.1)

module _ {F E C D Data Com Path InCom InPath : Type 0}
    (r : OpeningSetting F E C D Data Com Path InCom InPath) (rounds : List (OpeningRound F E))
    (requests : List (OpeningRequest D E))
    (rounds_are : map round_request rounds ≡ map (matrices_request r.committed) requests) where
  abbrev asked : List (Request D E)
  asked = map request requests

  abbrev values : List (List (List (List E)))
  values = map (values_asked r.setting.fields r.parameters.log_blowup) rounds

  abbrev opened : List (Opened F E)
  opened = opened_of rounds values

  abbrev honest : List (List (List (List E)))
  honest = map (honest_values (held r)) asked

  values_are_honest : values ≡ honest
  values_are_honest = values_by_request r.setting.fields r.parameters.log_blowup r.committed rounds
      requests rounds_are

  -- what stops an opening of the rounds
  module _ (c : C) where
    abbrev in_rounds : List (List (Opened F E))
    in_rounds = map (round_opened r.setting.fields r.committed r.parameters.log_blowup) asked

    stops_asked : (e : FriProverError) → OpeningStops r opened values c e
        → RequestsStop r c asked e
    stops_asked e h =
        subst (λ ys. OpeningStops r (joined in_rounds) ys c e) values_are_honest
        (subst (λ oss. OpeningStops r (joined oss) values c e)
        (opened_by_request r.setting.fields r.parameters.log_blowup r.committed rounds requests
        rounds_are) h)

    refused_asked : (e : FriProverError)
        → PassesChecks r.setting.fields r.parameters r.committed asked
        → OpeningStops r opened values c e → ¬ LeavesState e → OpenRefusal r c asked e
    refused_asked OutOfMemory passes h not = passes
    refused_asked (NoPowWitness phase) passes h not = (passes, stops_asked (NoPowWitness phase) h)
    refused_asked (InputHeightTooSmall a b) passes h not = absurd (not tt)
    refused_asked FinalHeightOverflow passes h not = absurd (not tt)
    refused_asked (PointInEvaluationDomain a b d) passes h not = absurd (not tt)

    -- is why it is refused
    pub all_refused : {T : Type 0} (result : Result T FriProverError)
        → PassesChecks r.setting.fields r.parameters r.committed asked
        → IfErr result (λ e. OpeningStops r opened values c e)
        → IfErr result (λ e. ¬ LeavesState e) → IfErr result (λ e. OpenRefusal r c asked e)
    all_refused (Ok o) passes h not = tt
    all_refused (Err e) passes h not = refused_asked e passes h not

  -- an opening of the rounds
  module _ (laws : AreTwoAdic r.setting.fields)
      (fit : (bits : ℕ) → bits ≤ r.setting.fields.two_adicity + r.setting.extra_bits
      → DrawsFit r.setting.moves bits)
      (in_range : IsInOpeningRange r.parameters r.setting.fields.two_adicity r.setting.extra_bits
      r.max_log_height r.most_bits)
      (openable : AreOpenable (StandsOnCosets r) (held r) asked)
      (passes : PassesChecks r.setting.fields r.parameters r.committed asked) (batches : List D)
      (batches_are : batches ≡ map (λ (q : OpeningRequest D E). q.prover_data.now) requests)
      (c last : C) where
    module _ (proof : Proof F E Com Path InPath)
        (opening : IsOpening r opened values c batches proof last) where
      abbrev drawn : BatchReplay C E
      drawn = batch r opened values c proof.batch_witness

      abbrev quotients : List (List E)
      quotients = words r.setting.fields opened drawn.alpha

      abbrev Opens : D → InputOpening F InPath → Type 0
      Opens d o = OpensBatch r.setting.opens_input (top r.setting.fields opened)
          (positions r.setting r.parameters (heights r.setting.fields opened)
          (top r.setting.fields opened) quotients drawn.state proof) (r.committed d)
          (r.commitment_of d) o

      -- of the requests themselves
      proved_asked : IsProved r.setting r.parameters (heights r.setting.fields opened)
          (top r.setting.fields opened) quotients drawn.state proof (length requests) last
      proved_asked =
          subst (λ n. IsProved r.setting r.parameters (heights r.setting.fields opened)
          (top r.setting.fields opened) quotients drawn.state proof n last)
          (ap length batches_are ∙ length-map requests (λ q. q.prover_data.now))
          opening.tested.proved

      inputs_asked : AllZip (λ (q : OpeningRequest D E) o. Opens q.prover_data.now o) requests
          proof.inputs
      inputs_asked = zip_unmapped (λ q. q.prover_data.now) Opens requests proof.inputs
          (subst (λ ds. AllZip Opens ds proof.inputs) batches_are opening.tested.inputs)

      -- of honest data
      module _ (are_honest : AreHonest (IsHonest r) asked) (log_sizes : List (List ℕ))
          (fits : FitDomains (held r) (λ n. 2 ^ n) log_sizes asked) where
        accepted_asked : Accepts r.setting r.parameters (claims_asked r asked log_sizes) proof c
        accepted_asked = opening_accepted r.setting r.parameters r.committed r.commitment_of
            (λ (n : ℕ). n) rounds requests values c proof last laws fit in_range.queries
            in_range.blowup in_range.rounds.test.cap openable are_honest passes.heights
            passes.points rounds_are refl opening.tested.passes opening.canonical
            (top r.setting.fields opened) quotients refl refl proved_asked inputs_asked log_sizes
            fits

        state_asked : last ≡ (test_replay r.setting r.parameters (claims_asked r asked log_sizes)
            proof (batch_replayed r.setting r.parameters (claims_asked r asked log_sizes) proof
            c).state).state
        state_asked = sym (opening_last_state r.setting r.parameters r.committed r.commitment_of
            (λ (n : ℕ). n) rounds requests values c proof last laws fit in_range.queries
            in_range.blowup in_range.rounds.test.cap openable are_honest passes.heights
            passes.points rounds_are refl opening.tested.passes opening.canonical
            (top r.setting.fields opened) quotients refl refl proved_asked inputs_asked log_sizes
            fits)

    -- is one of the requests
    pub all_opened : {T X : Type 0} (result : Result T X)
        (shown : T → List (List (List (List E)))) (view : T → Proof F E Com Path InPath)
        → IfOk result (λ o. shown o ≡ values)
        → IfOk result (λ o. IsOpening r opened values c batches (view o) last)
        → IfOk result (λ o. IsOpened r asked c last (shown o) (view o))
    all_opened (Ok o) shown view is opening = record {
      honest = is ∙ values_are_honest;
      accepted = λ are_honest log_sizes fits.
          accepted_asked (view o) opening are_honest log_sizes fits;
      state = λ are_honest log_sizes fits. state_asked (view o) opening are_honest log_sizes fits;
    }
    all_opened (Err e) shown view is opening = tt
