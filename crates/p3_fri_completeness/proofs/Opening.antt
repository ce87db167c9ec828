-- An opening of requests is accepted, in the words of the calls of which it is made: the rounds
-- that come of the requests, the committed polynomials' values, the batch's transcript, the words
-- of all log heights, and the test's proof of these.
use Rattle.std.proofs.Common.{◌≡◌, ℕ, suc, ◌+◌, ◌<◌, ◌≤◌, List, map, length}
use Rattle.std.proofs.Common.{sym, ap}
use Rattle.std.proofs.Common.{◌∙◌, subst}
use Rattle.std.specs.Prelude.{IsTrue}
use Rattle.std.specs.List.{All, AllZip}
use Rattle.std.proofs.lemmas.List.{length-map}
use Rattle.algebra.specs.Nested.{joined}
use Rattle.algebra.proofs.Lists.{each_from_All, all_zip-mapped}
use Rattle.p3_matrix.specs.declared.dense.RowMajorMatrix.{RowMajorMatrix}
use Rattle.p3_pcs.specs.declared.requests.OpeningRequest.{OpeningRequest}
use Rattle.p3_pcs.specs.Claims.{zip_with}
use Rattle.p3_pcs.specs.Requests.{Request, request, AreOpenable, AreHonest}
use Rattle.p3_pcs.specs.Requests.{honest_claims}
use Rattle.p3_fri_folding.specs.Schedule.{tallest}
use Rattle.p3_fri_pcs_transcript.specs.Replay.{BatchReplay}
use Rattle.p3_fri_relation.specs.Setting.{Setting, Parameters, CommitmentClaim, Proof}
use Rattle.p3_fri_relation.specs.Acceptance.{test_replay, batch_replayed, Accepts}
use Rattle.p3_fri_openings.specs.declared.round.OpeningRound.{OpeningRound}
use Rattle.p3_fri_openings.specs.Opened.{values_asked}
use Rattle.p3_fri_openings.specs.Requests.{round_request, matrices_request}
use Rattle.p3_fri_openings.specs.Rounds.{HasCoset, ask}
use Rattle.p3_fri_openings.specs.Refusals.{AreTallEnough, HasPointsOff}
use Rattle.p3_fri_batch.specs.Words.{Opened, batch_word}
use Rattle.p3_fri_batch.specs.Heights.{heights_below}
use Rattle.p3_fri_batch.specs.Rounds.{opened_by_round, opened_of}
use Rattle.p3_fri_prover.specs.Openings.{OpensBatch}
use Rattle.p3_fri_prover.specs.Proved.{positions, IsProved}
use Rattle.p3_fri_completeness.specs.Honest.{AreTwoAdic, DrawsFit}
use Rattle.p3_fri_openings.specs.Held.{held_of, HoldsWords}
use Rattle.p3_fri_openings.specs.SchemeClaims.{relation_claims}
use Rattle.p3_fri_completeness.specs.Requests.{round_opened, IsHonestRequest}
use Rattle.p3_fri_completeness.proofs.Requests.{Fit, honest_requests}
use Rattle.p3_fri_completeness.proofs.Rounds.{opened_by_request, values_by_request}
use Rattle.p3_fri_completeness.proofs.Absorbed.{begun, begun_of_claims}
use Rattle.p3_fri_completeness.proofs.Scheme.{requests_accepted, requests_last_state}

module _ {F E D C Com Path InCom InPath Domain : Type 0} (s : Setting F E C Com Path InCom InPath)
    (p : Parameters) (committed : D → List (RowMajorMatrix F)) (commitment_of : D → InCom)
    (log_size : Domain → ℕ) (rounds : List (OpeningRound F E))
    (requests : List (OpeningRequest D E))
    (values : List (List (List (List E)))) (c : C) (proof : Proof F E Com Path InPath)
    (last : C) where
  abbrev asked : List (Request D E)
  asked = map request requests

  -- the batch's transcript
  abbrev start : BatchReplay C E
  start = begun s p c proof.batch_witness values

  -- what is opened, its log heights, and the words of these
  abbrev opened : List (Opened F E)
  opened = opened_of rounds values

  abbrev heights : List ℕ
  heights = heights_below opened (suc s.fields.two_adicity)

  abbrev words_from : (alpha : E) → List (List E)
  words_from alpha = map (λ h. batch_word s.fields alpha h opened) heights

  abbrev claims : List (List Domain) → List (CommitmentClaim E InCom)
  claims domains = relation_claims log_size
      (honest_claims (held_of s.fields committed p.log_blowup) commitment_of domains asked)

  -- all that hangs on the batch's challenge and the state after it
  record Went (top : ℕ) (words : List (List E)) (r : BatchReplay C E) : Type 0 where
    passed : IsTrue r.passes
    of_words : words ≡ words_from r.alpha
    of_proof : IsProved s p heights top words r.state proof (length requests) last
    of_inputs : AllZip (λ q o. OpensBatch s.opens_input top
        (positions s p heights top words r.state proof) (committed q.prover_data.now)
        (commitment_of q.prover_data.now) o) requests proof.inputs

  module _ (laws : AreTwoAdic s.fields)
      (fit : (bits : ℕ) → bits ≤ s.fields.two_adicity + s.extra_bits → DrawsFit s.moves bits)
      (some_query : 0 < p.num_queries) (some_blowup : 0 < p.log_blowup)
      (some_arity : 0 < p.max_log_arity)
      (openable : AreOpenable (λ d. All (HasCoset s.fields.two_adicity) (committed d))
      (held_of s.fields committed p.log_blowup) asked)
      (honest : AreHonest (λ d. All (HoldsWords s.fields p.log_blowup) (committed d)) asked)
      (tall : All (λ r. AreTallEnough p (committed r.datum)) asked)
      (off : All (λ r. All (HasPointsOff s.fields) (zip_with ask (committed r.datum) r.points)) asked)
      (rounds_are : map round_request rounds ≡ map (matrices_request committed) requests)
      (values_are : values ≡ map (values_asked s.fields p.log_blowup) rounds)
      (passes : IsTrue start.passes)
      (canonical : p.batch_pow_bits ≡ 0 → proof.batch_witness ≡ s.fields.base.zero)
      (top : ℕ) (words : List (List E)) (top_is : tallest heights ≡ top)
      (words_are : words ≡ words_from start.alpha)
      (proved : IsProved s p heights top words start.state proof (length requests) last)
      (inputs : AllZip (λ r o. OpensBatch s.opens_input top
      (positions s p heights top words start.state proof) (committed r.prover_data.now)
      (commitment_of r.prover_data.now) o) requests proof.inputs) where
    requests_are : All (IsHonestRequest s.fields committed p) asked
    requests_are = honest_requests s.fields p committed asked openable honest tall off

    opened_same : opened ≡ joined (map (round_opened s.fields committed p.log_blowup) asked)
    opened_same = ap joined (ap (λ vs. opened_by_round rounds vs) values_are
        ∙ opened_by_request s.fields p.log_blowup committed rounds requests rounds_are)

    went : Went top words start
    went = record {
      passed = passes;
      of_words = words_are;
      of_proof = proved;
      of_inputs = inputs;
    }

    module _ (domains : List (List Domain))
        (domains_fit : Fit s.fields p committed commitment_of log_size domains asked) where
      abbrev before : BatchReplay C E
      before = batch_replayed s p (claims domains) proof c

      claimed : Went top words before
      claimed = subst (Went top words)
          (ap (λ ys. begun s p c proof.batch_witness ys)
          (values_are
          ∙ values_by_request s.fields p.log_blowup committed rounds requests rounds_are)
          ∙ begun_of_claims s p committed commitment_of log_size c proof domains asked domains_fit
          (each_from_All (IsHonestRequest s.fields committed p) asked requests_are))
          went

      heights_same : heights
          ≡ heights_below (joined (map (round_opened s.fields committed p.log_blowup) asked))
          (suc s.fields.two_adicity)
      heights_same = ap (λ ms. heights_below ms (suc s.fields.two_adicity)) opened_same

      words_same : words ≡ map (λ h. batch_word s.fields before.alpha h
          (joined (map (round_opened s.fields committed p.log_blowup) asked))) heights
      words_same = claimed.of_words
          ∙ ap (λ ms. map (λ h. batch_word s.fields before.alpha h ms) heights) opened_same

      proved_of_asked : IsProved s p heights top words before.state proof (length asked) last
      proved_of_asked =
          subst (λ n. IsProved s p heights top words before.state proof n last)
          (sym (length-map requests request)) claimed.of_proof

      inputs_of_asked : AllZip (λ r o. OpensBatch s.opens_input top
          (positions s p heights top words before.state proof) (committed r.datum)
          (commitment_of r.datum) o) asked proof.inputs
      inputs_of_asked = all_zip-mapped request (λ r o. OpensBatch s.opens_input top
          (positions s p heights top words before.state proof) (committed r.datum)
          (commitment_of r.datum) o) requests proof.inputs claimed.of_inputs

      -- the scheme accepts it of the honest claims
      pub opening_accepted : Accepts s p (claims domains) proof c
      opening_accepted = requests_accepted s p committed commitment_of log_size domains asked c
          proof last laws fit some_query some_blowup some_arity domains_fit requests_are
          openable.some_matrix claimed.passed canonical heights top words heights_same top_is
          words_same (proved_of_asked, inputs_of_asked)

      -- and leaves a verifier in the prover's last state
      pub opening_last_state : (test_replay s p (claims domains) proof before.state).state ≡ last
      opening_last_state = requests_last_state s p committed commitment_of log_size domains asked c
          proof last laws fit some_query some_blowup some_arity domains_fit requests_are
          openable.some_matrix claimed.passed canonical heights top words heights_same top_is
          words_same (proved_of_asked, inputs_of_asked)
