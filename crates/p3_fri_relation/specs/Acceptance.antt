-- What is accepted: a conjunction of conditions, none of which is an order of checks.
use Rattle.std.specs.Prelude.{◌≡◌, ◌≢◌, ℕ, ◌<◌, ◌≤◌, IsTrue, EachIndex}
use Rattle.std.specs.Prelude.{List, [], map, length, All, Some, slice_index}
use Rattle.std.specs.List.{AllZip, flat_map}
use Rattle.p3_fri_folding.specs.Schedule.{schedule}
use Rattle.p3_fri_transcript.specs.Steps.{FriNumbers, fri_stream}
use Rattle.p3_challenger_fs.specs.Turns.{bytes_observed}
use Rattle.p3_fri_transcript.specs.Replay.{RoundsReplay, QueriesReplay, FriReplay}
use Rattle.p3_fri_transcript.specs.Replay.{rounds_replay, shown_queries_replay}
use Rattle.p3_fri_pcs_transcript.specs.Steps.{PcsNumbers, pcs_stream}
use Rattle.p3_fri_pcs_transcript.specs.Replay.{BatchReplay, claims_replay}
use Rattle.p3_fri_relation.specs.Setting.{Setting, Parameters}
use Rattle.p3_fri_relation.specs.Setting.{CommitmentClaim, RoundOpening, Proof}
use Rattle.p3_fri_relation.specs.Setting.{final_height}
use Rattle.p3_fri_relation.specs.Heights.{matrices_of, log_height, greatest_height, heights_of}
use Rattle.p3_fri_relation.specs.Inputs.{HasPoints, OpensInput, HasSums, sums_met}
use Rattle.p3_fri_relation.specs.Queries.{Source}
use Rattle.p3_fri_relation.specs.TestRounds.{bound_numbers, HasCounts, AreCanonicalInTest}
use Rattle.p3_fri_relation.specs.TestRounds as test

module _ {E InCom : Type 0} (p : Parameters) (claims : List (CommitmentClaim E InCom)) where
  -- the greatest log height
  abbrev pub top_height : ℕ
  top_height = greatest_height p.log_blowup (matrices_of claims)

  -- the log arities of the rounds: the schedule's, in which no proof has a say
  abbrev pub log_arities : List ℕ
  log_arities =
      schedule (heights_of p.log_blowup (matrices_of claims)) (final_height p) p.max_log_arity

  -- the parameters are positive, there is a matrix, and in a field of this two-adicity the log
  -- heights reach from the final one to those of cosets
  pub record IsInRange (two_adicity : ℕ) : Type 0 where
    pub queries : 0 < p.num_queries
    pub blowup : 0 < p.log_blowup
    pub cap : 0 < p.max_log_arity
    pub some_matrix : matrices_of claims ≢ []
    pub tall_enough : All (λ m. final_height p ≤ log_height p.log_blowup m) (matrices_of claims)
    pub within_two_adicity : All (λ m. log_height p.log_blowup m ≤ two_adicity) (matrices_of claims)

  -- the parameters and the claims are those of an instance
  pub record IsInstance (two_adicity : ℕ) : Type 0 where
    pub in_range : IsInRange two_adicity
    pub points : All HasPoints (matrices_of claims)

  -- what the test's transcript is bound to
  abbrev pub fri_numbers : (extra_bits : ℕ) → FriNumbers
  fri_numbers extra_bits = bound_numbers p log_arities top_height extra_bits

  -- what the transcript around the test is bound to
  abbrev pub pcs_numbers : PcsNumbers
  pcs_numbers = record {
    counts = map (λ claim. map (λ m. map (λ z. length z.values) m.points) claim.matrices) claims;
    batch_pow_bits = p.batch_pow_bits;
  }

-- all claimed values, in order
abbrev pub values_claimed : {E InCom : Type 0} → List (CommitmentClaim E InCom) → List E
values_claimed claims = flat_map (λ m. flat_map (λ z. z.values) m.points) (matrices_of claims)

-- a witness at no bits is zero, of the batching and of the test
pub record AreCanonical {F E Com Path InPath : Type 0} (p : Parameters)
    (proof : Proof F E Com Path InPath) (zero : F) : Type 0 where
  pub batch : p.batch_pow_bits ≡ 0 → proof.batch_witness ≡ zero
  pub in_test : AreCanonicalInTest p proof zero

module _ {F E C Com Path InCom InPath : Type 0} (s : Setting F E C Com Path InCom InPath)
    (p : Parameters) (claims : List (CommitmentClaim E InCom)) (proof : Proof F E Com Path InPath)
  where
    -- the queries meet the quotient sums, with this batching challenge
    abbrev pub source : (alpha : E) → Source E
    source alpha = sums_met s.fields p.log_blowup alpha (top_height p claims) claims proof.inputs

    -- at these positions, and with these folding challenges
    module _ (alpha : E) (betas : List E) (positions : List ℕ) where
      -- the rows opened of each commitment are those of its matrices
      abbrev pub InputsOpen : Type 0
      InputsOpen = AllZip
          (OpensInput s.opens_input p.log_blowup (top_height p claims) positions)
          claims proof.inputs

      abbrev pub OpensRound : (k : ℕ) → Com × RoundOpening E Path → Type 0
      OpensRound = test.OpensRound s p (log_arities p claims) (top_height p claims) proof
          (source alpha) betas positions

      abbrev pub RoundsOpen : Type 0
      RoundsOpen = test.RoundsOpen s p (log_arities p claims) (top_height p claims) proof
          (source alpha) betas positions

      abbrev pub QueryEnds : (j : ℕ) → Type 0
      QueryEnds = test.QueryEnds s p (log_arities p claims) (top_height p claims) proof
          (source alpha) betas positions

      -- query `j` goes its way: its quotient sums are in order, and it ends there
      pub record QueryHolds (j : ℕ) : Type 0 where
        pub sums : HasSums s.fields p.log_blowup alpha (top_height p claims) claims proof.inputs j
            (slice_index positions j)
        pub ends : QueryEnds j

      -- all that the openings have to be
      pub record AreOpeningsGood : Type 0 where
        pub inputs_open : InputsOpen
        pub rounds_open : RoundsOpen
        pub queries_hold : EachIndex positions QueryHolds

    module _ (c : C) where
      -- what is drawn along the test, from the challenger's state `c`
      abbrev pub test_replay : FriReplay C E
      test_replay = test.replayed s p (log_arities p claims) (top_height p claims) proof c

      -- the same of its rounds alone, and of its queries after them
      abbrev pub rounds_replayed : RoundsReplay C E
      rounds_replayed = rounds_replay s.moves p.commit_pow_bits
          (bytes_observed s.fields.base s.moves.observe_value c
          (fri_stream s.fields.degree (fri_numbers p claims s.extra_bits)))
          proof.commitments proof.commit_witnesses

      abbrev pub queries_replayed : QueriesReplay C
      queries_replayed = shown_queries_replay s.moves s.fields.coefficients
          (fri_numbers p claims s.extra_bits) rounds_replayed.state proof.final_poly
          (Some proof.query_witness)

      abbrev pub positions : List ℕ
      positions = test.positions s p (log_arities p claims) (top_height p claims) proof c

      -- the low-degree test accepts, from the state `c` and with the batching challenge `alpha`
      pub record FriAccepts (alpha : E) : Type 0 where
        pub instance_of : IsInstance p claims s.fields.two_adicity
        pub counts : HasCounts p proof (log_arities p claims) (length claims)
        pub canonical : AreCanonical p proof s.fields.base.zero
        pub passes : IsTrue test_replay.passes
        pub openings : AreOpeningsGood alpha test_replay.betas positions

      -- what is drawn before the test
      abbrev pub batch_replayed : BatchReplay C E
      batch_replayed = claims_replay s.moves s.fields.coefficients s.fields.base p.batch_pow_bits
          (pcs_stream s.fields.degree (pcs_numbers p claims)) c (values_claimed claims)
          (Some proof.batch_witness)

    -- the scheme accepts: its proof of work passes, and the test accepts with the challenge drawn
    -- then
    pub record Accepts (c : C) : Type 0 where
      pub passes : IsTrue (batch_replayed c).passes
      pub accepts : FriAccepts (batch_replayed c).state (batch_replayed c).alpha
