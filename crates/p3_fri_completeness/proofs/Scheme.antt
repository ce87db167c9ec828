-- What is opened of honest requests is accepted of their honest claims.
use Rattle.std.proofs.Common.{◌≡◌, ◌≢◌, ℕ, suc, ◌+◌, ◌<◌, ◌≤◌, List, [], map}
use Rattle.std.proofs.Common.{length, sym, ap, ◌∙◌, arith, subst}
use Rattle.std.specs.Prelude.{IsTrue}
use Rattle.std.specs.List.{All, AllZip, flat_map}
use Rattle.algebra.specs.Nested.{joined}
use Rattle.algebra.proofs.Lists.{Each, each_from_All, All_from_each}
use Rattle.p3_matrix.specs.declared.dense.RowMajorMatrix.{RowMajorMatrix}
use Rattle.p3_pcs.specs.Requests.{Request, honest_claims}
use Rattle.p3_fri_folding.specs.Schedule.{tallest}
use Rattle.p3_fri_pcs_transcript.specs.Replay.{BatchReplay}
use Rattle.p3_fri_relation.specs.Setting.{Setting, Parameters, CommitmentClaim, Proof}
use Rattle.p3_fri_relation.specs.Heights.{matrices_of}
use Rattle.p3_fri_relation.specs.Heights.{log_height as claimed_height}
use Rattle.p3_fri_relation.specs.Acceptance.{top_height, test_replay, batch_replayed, Accepts}
use Rattle.p3_fri_relation.proofs.ClaimedHeights.{heights_of-tallest}
use Rattle.p3_fri_batch.specs.Words.{Opened, batch_word}
use Rattle.p3_fri_batch.specs.Heights.{heights_below}
use Rattle.p3_fri_batch.specs.Claimed.{AreClaimsOf}
use Rattle.p3_fri_batch.proofs.Heights.{claimed_heights}
use Rattle.p3_fri_prover.specs.Openings.{OpensBatch}
use Rattle.p3_fri_prover.specs.Proved.{positions, IsProved}
use Rattle.p3_fri_completeness.specs.Honest.{AreTwoAdic, DrawsFit, IsHonest, IsHonestlyOpened}
use Rattle.p3_fri_completeness.specs.Honest.{heights_claimed, words_claimed}
use Rattle.p3_fri_openings.specs.Held.{held_of}
use Rattle.p3_fri_openings.specs.SchemeClaims.{relation_claims}
use Rattle.p3_fri_completeness.specs.Requests.{round_opened, IsHonestRequest}
use Rattle.p3_fri_completeness.proofs.Claims.{each_claimed}
use Rattle.p3_fri_completeness.proofs.Inputs.{greatest_within}
use Rattle.p3_fri_completeness.proofs.Accepted.{honest_opening_accepted, honest_state}
use Rattle.p3_fri_completeness.proofs.Requests.{requests_claimed, requests_counted, requests_honest}
use Rattle.p3_fri_completeness.proofs.Requests.{some_opened, requests_opened, Fit}

module _ {F E D C Com Path InCom InPath Domain : Type 0} (s : Setting F E C Com Path InCom InPath)
    (p : Parameters) (committed : D → List (RowMajorMatrix F)) (commitment_of : D → InCom)
    (log_size : Domain → ℕ) (domains : List (List Domain)) (requests : List (Request D E)) (c : C)
    (proof : Proof F E Com Path InPath) (last : C) where
  abbrev b : ℕ
  b = p.log_blowup

  abbrev claims : List (CommitmentClaim E InCom)
  claims = relation_claims log_size
      (honest_claims (held_of s.fields committed p.log_blowup) commitment_of domains requests)

  abbrev opened : List (List (Opened F E))
  opened = map (round_opened s.fields committed p.log_blowup) requests

  abbrev before : BatchReplay C E
  before = batch_replayed s p claims proof c

  abbrev words_of : List ℕ → List (List E)
  words_of hs = map (λ h. batch_word s.fields before.alpha h (joined opened)) hs

  -- the proof is one of these words, with what is opened of the data at its positions
  abbrev IsRun : (heights : List ℕ) (top : ℕ) (words : List (List E)) (count : ℕ) → Type 0
  IsRun heights top words count =
      IsProved s p heights top words before.state proof count last
      × AllZip (λ r o. OpensBatch s.opens_input top
      (positions s p heights top words before.state proof) (committed r.datum)
      (commitment_of r.datum) o) requests proof.inputs

  moved : (hs gs : List ℕ) (top up : ℕ) (ws vs : List (List E)) (n m : ℕ)
      → hs ≡ gs → top ≡ up → ws ≡ vs → n ≡ m → IsRun hs top ws n → IsRun gs up vs m
  moved hs gs top up ws vs n m h t w l run =
      subst (λ x. IsRun gs up vs x) l
      (subst (λ x. IsRun gs up x n) w
      (subst (λ x. IsRun gs x ws n) t
      (subst (λ x. IsRun x top ws n) h run)))

  module _ (laws : AreTwoAdic s.fields)
      (fit : (bits : ℕ) → bits ≤ s.fields.two_adicity + s.extra_bits → DrawsFit s.moves bits)
      (some_query : 0 < p.num_queries) (some_blowup : 0 < p.log_blowup)
      (some_arity : 0 < p.max_log_arity)
      (domains_fit : Fit s.fields p committed commitment_of log_size domains requests)
      (requests_are : All (IsHonestRequest s.fields committed p) requests)
      (some_matrix : flat_map (λ r. held_of s.fields committed p.log_blowup r.datum) requests ≢ [])
      (passes : IsTrue before.passes)
      (canonical : p.batch_pow_bits ≡ 0 → proof.batch_witness ≡ s.fields.base.zero)
      (heights : List ℕ) (top : ℕ) (words : List (List E))
      (heights_are : heights ≡ heights_below (joined opened) (suc s.fields.two_adicity))
      (top_is : tallest heights ≡ top) (words_are : words ≡ words_of heights)
      (run : IsRun heights top words (length requests)) where
    each : Each (IsHonestRequest s.fields committed p) requests
    each = each_from_All (IsHonestRequest s.fields committed p) requests requests_are

    are : AreClaimsOf b claims opened
    are = requests_claimed s.fields p committed commitment_of log_size domains requests domains_fit
        each

    honest : Each (IsHonest s.fields p) (joined opened)
    honest = requests_honest s.fields p committed commitment_of log_size requests each

    all_honest : All (IsHonest s.fields p) (joined opened)
    all_honest = All_from_each (IsHonest s.fields p) (joined opened) honest

    heights_same : heights ≡ heights_claimed p claims opened
    heights_same = heights_are
        ∙ sym (claimed_heights b claims opened are (suc s.fields.two_adicity)
        (λ k d l. let m = all_honest k d l in omega (arith, m.within_two_adicity)))

    top_same : top ≡ top_height p claims
    top_same = sym top_is ∙ ap tallest heights_same ∙ heights_of-tallest b (matrices_of claims)

    words_same : words ≡ words_claimed p claims opened s.fields before.alpha
    words_same = words_are ∙ ap words_of heights_same

    claimed_run : IsRun (heights_claimed p claims opened) (top_height p claims)
        (words_claimed p claims opened s.fields before.alpha) (length claims)
    claimed_run = moved heights (heights_claimed p claims opened) top (top_height p claims) words
        (words_claimed p claims opened s.fields before.alpha) (length requests) (length claims)
        heights_same top_same words_same
        (sym (requests_counted s.fields p committed commitment_of log_size domains requests
        domains_fit)) run

    opened_honestly : IsHonestlyOpened s p claims opened before.alpha before.state proof last
    opened_honestly = record {
      some_query = some_query;
      some_blowup = some_blowup;
      some_arity = some_arity;
      some_matrix = some_opened s.fields p committed commitment_of log_size requests each
          some_matrix;
      honest = all_honest;
      claimed = are;
      proved = claimed_run.0;
      inputs = requests_opened s.fields p committed commitment_of log_size s.opens_input
          (top_height p claims)
          (positions s p (heights_claimed p claims opened) (top_height p claims)
          (words_claimed p claims opened s.fields before.alpha) before.state proof)
          domains requests proof.inputs domains_fit each claimed_run.1;
      batch_canonical = canonical;
    }

    top_within : top_height p claims ≤ s.fields.two_adicity
    top_within = greatest_within s.fields p s.fields.two_adicity 0 (matrices_of claims)
        (omega arith)
        (each_claimed b (IsHonest s.fields p) (λ m. claimed_height b m ≤ s.fields.two_adicity)
        (λ claim m is h. subst (λ n. n ≤ s.fields.two_adicity) (sym is.height) h.within_two_adicity)
        claims opened are honest)

    fits : DrawsFit s.moves (top_height p claims + s.extra_bits)
    fits = fit (top_height p claims + s.extra_bits) (omega (arith, top_within))

    -- the scheme accepts the honest claims
    pub requests_accepted : Accepts s p claims proof c
    requests_accepted = honest_opening_accepted s p claims opened c proof last laws fits passes
        opened_honestly

    -- and a verifier is left in the prover's last state
    pub requests_last_state : (test_replay s p claims proof before.state).state ≡ last
    requests_last_state =
        honest_state s p claims opened before.alpha before.state proof last laws fits
        opened_honestly
