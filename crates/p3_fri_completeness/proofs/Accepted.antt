-- What an honest prover opens is accepted, and the test ends in the state that it leaves.
use Rattle.std.proofs.Common.{◌≡◌, ℕ, suc, ◌+◌, ◌-◌, ◌/◌, ◌^◌, ◌<◌, ◌≤◌, List, [], map}
use Rattle.std.proofs.Common.{length, get_or, true, refl, sym, ap, ◌∙◌, arith, subst}
use Rattle.std.specs.Prelude.{IsTrue, slice_index}
use Rattle.std.specs.List.{All, zip}
use Rattle.std.proofs.Math.Nat.{div-one}
use Rattle.std.proofs.lemmas.List.Elements.{All-weaker}
use Rattle.algebra.specs.Nested.{joined}
use Rattle.algebra.specs.Rounds.{AreLowDegreeWords}
use Rattle.algebra.proofs.Lists.{Each, each_from_All, All_from_each}
use Rattle.p3_fri_relation.specs.Setting.{Setting, Parameters, CommitmentClaim, Proof}
use Rattle.p3_fri_relation.specs.Setting.{final_height}
use Rattle.p3_fri_relation.specs.Heights.{matrices_of, has_height}
use Rattle.p3_fri_relation.specs.Heights.{log_height as claimed_height}
use Rattle.p3_fri_relation.specs.Inputs.{HasPoints, HasSums, rows_at}
use Rattle.p3_fri_relation.specs.Queries.{Source, rounds_of}
use Rattle.p3_fri_relation.specs.FoldedQuery.{value_at}
use Rattle.p3_fri_pcs_transcript.specs.Replay.{BatchReplay}
use Rattle.p3_fri_transcript.specs.Replay.{fri_replay, shown_queries_replay}
use Rattle.p3_fri_transcript.proofs.Indices.{draws_are_indices}
use Rattle.p3_fri_relation.proofs.TestReplays.{length-positions, positions-below}
use Rattle.p3_fri_relation.specs.Acceptance.{IsInRange, IsInstance, top_height, test_replay}
use Rattle.p3_fri_relation.specs.Acceptance.{FriAccepts}
use Rattle.p3_fri_relation.specs.Acceptance.{Accepts, batch_replayed, AreOpeningsGood}
use Rattle.p3_fri_relation.specs.Acceptance as test
use Rattle.p3_fri_relation.proofs.ClaimedHeights.{greatest_height-bounds, heights_below-had}
use Rattle.p3_fri_relation.proofs.Instances.{instance_heights, instance_height-bounds, instance_top}
use Rattle.p3_fri_relation.proofs.Sources.{GiveSame, same_end, same_rounds}
use Rattle.p3_fri_openings.specs.Rounds.{log_height, HasCoset}
use Rattle.p3_fri_batch.specs.Words.{Opened, batch_word}
use Rattle.p3_fri_batch.specs.Claimed.{rows_opened}
use Rattle.p3_fri_batch.proofs.Heights.{claimed_heights}
use Rattle.p3_fri_batch.proofs.Bridge.{entry_is_quotient_sum, entry_is_input}
use Rattle.p3_fri_batch.proofs.LowWords.{words_low}
use Rattle.p3_fri_prover.specs.Proved.{AreLow, entries_met}
use Rattle.p3_fri_completeness.specs.Honest.{AreTwoAdic, IsHonest, IsHonestlyOpened}
use Rattle.p3_fri_completeness.specs.Honest.{heights_claimed, DrawsFit}
use Rattle.p3_fri_completeness.specs.Honest.{words_claimed}
use Rattle.p3_fri_completeness.proofs.Claims.{each_claimed, some_claimed, points_claimed}
use Rattle.p3_fri_completeness.proofs.Inputs.{inputs_opened}
use Rattle.p3_fri_completeness.proofs.Sums.{rows_are, cosets, sums_defined, sums_vanish}

module _ {F E C Com Path InCom InPath : Type 0} (s : Setting F E C Com Path InCom InPath)
    (p : Parameters) (claims : List (CommitmentClaim E InCom)) (rounds : List (List (Opened F E)))
    (alpha : E) (c : C) (proof : Proof F E Com Path InPath) (last : C)
    (laws : AreTwoAdic s.fields) (fit : DrawsFit s.moves (top_height p claims + s.extra_bits))
    (o : IsHonestlyOpened s p claims rounds alpha c proof last) where
  abbrev b : ℕ
  b = p.log_blowup

  abbrev top : ℕ
  top = top_height p claims

  abbrev heights : List ℕ
  heights = heights_claimed p claims rounds

  abbrev words : List (List E)
  words = words_claimed p claims rounds s.fields alpha

  abbrev positions : List ℕ
  positions = test.positions s p claims proof c

  abbrev betas : List E
  betas = (test_replay s p claims proof c).betas

  -- what its queries meet, in the relation and in the words
  abbrev sums : Source E
  sums = test.source s p claims proof alpha

  abbrev entries : Source E
  entries = entries_met s.fields.ext heights top words

  -- they lie in the greatest word
  within_word : All (λ q. q < 2 ^ top) positions
  unfolding fri_replay shown_queries_replay
  within_word = positions-below s p claims proof c
      (draws_are_indices (λ d. s.moves.draw_bits d (top + s.extra_bits))
      (test.fri_numbers p claims s.extra_bits) fit _ (test_replay s p claims proof c).indices
      refl).below

  honest : Each (IsHonest s.fields p) (joined rounds)
  honest = each_from_All (IsHonest s.fields p) (joined rounds) o.honest

  up_to : Each (λ m. claimed_height b m ≤ top) (matrices_of claims)
  up_to = each_from_All (λ m. claimed_height b m ≤ top) (matrices_of claims)
      (greatest_height-bounds b (matrices_of claims))

  -- the claims are those of an instance
  in_range : IsInRange p claims s.fields.two_adicity
  in_range = record {
    queries = o.some_query;
    blowup = o.some_blowup;
    cap = o.some_arity;
    some_matrix = some_claimed b claims rounds o.claimed o.some_matrix;
    tall_enough = All_from_each (λ m. final_height p ≤ claimed_height b m) (matrices_of claims)
        (each_claimed b (IsHonest s.fields p) (λ m. final_height p ≤ claimed_height b m)
        (λ claim m is h. subst (λ n. final_height p ≤ n) (sym is.height) h.tall_enough) claims
        rounds o.claimed honest);
    within_two_adicity = All_from_each (λ m. claimed_height b m ≤ s.fields.two_adicity)
        (matrices_of claims)
        (each_claimed b (IsHonest s.fields p) (λ m. claimed_height b m ≤ s.fields.two_adicity)
        (λ claim m is h. subst (λ n. n ≤ s.fields.two_adicity) (sym is.height) h.within_two_adicity)
        claims rounds o.claimed honest);
  }

  points : All HasPoints (matrices_of claims)
  points = All_from_each HasPoints (matrices_of claims)
      (each_claimed b (IsHonest s.fields p) HasPoints (points_claimed s.fields p) claims rounds
      o.claimed honest)

  is_instance : IsInstance p claims s.fields.two_adicity
  is_instance = record { in_range = in_range; points = points }

  top_bounds : (final_height p ≤ top) × (top ≤ s.fields.two_adicity)
  top_bounds = instance_top p claims s.fields.two_adicity in_range

  on_cosets : All (λ m. HasCoset top m.matrix) (joined rounds)
  on_cosets = cosets s.fields p top claims rounds o.claimed honest up_to

  -- the words are of low degree
  below_top : All (λ m. log_height m.matrix < suc top) (joined rounds)
  below_top k d l = let m = on_cosets k d l in omega (arith, m.within)

  words_are_low : AreLow s p heights top words c proof
  words_are_low = record {
    tall_enough = All-weaker (λ h. has_height b (matrices_of claims) h ≡ true)
        (λ h. final_height p ≤ h)
        (λ h is. (instance_height-bounds p claims s.fields.two_adicity in_range h is).0)
        heights (heights_below-had b (matrices_of claims) (suc top));
    degrees =
        subst (λ hs. AreLowDegreeWords s.fields.ext (λ k. s.fields.lift (s.fields.root k)) b
        (λ h. value_at (zip hs (map (λ h. batch_word s.fields alpha h (joined rounds)) hs)) h))
        (sym (claimed_heights b claims rounds o.claimed (suc top) below_top))
        (words_low s.fields laws.base laws.roots laws.shift laws.ext laws.lifts b alpha
        (joined rounds) (suc top) below_top
        (λ k d l. let m = o.honest k d l in omega (arith, m.tall_enough))
        (λ k d l. (o.honest k d l).within_two_adicity)
        (λ k d l. (o.honest k d l).word));
  }

  -- a query meets the words' entries
  module _ (j : ℕ) (inside : j < length positions) where
    abbrev q : ℕ
    q = slice_index positions j

    below : q < 2 ^ top
    below = within_word j 0 inside

    rows_here : rows_at j proof.inputs ≡ map (rows_opened top q) rounds
    rows_here = rows_are s.opens_input b top positions j inside claims rounds proof.inputs o.claimed
        o.inputs

    met : (h : ℕ) → sums.met j q h ≡ entries.met j q h
    met h = sym (entry_is_input s.fields b alpha top q claims rounds
        (rows_at j proof.inputs) heights words h
        o.claimed rows_here on_cosets refl refl below)

    own_place : q / 2 ^ (top - top) ≡ q
    own_place = let e : top - top ≡ 0 = omega arith in ap (λ n. q / 2 ^ n) e ∙ div-one q

    begins : sums.first j q ≡ entries.first j q
    begins =
        sym (entry_is_quotient_sum s.fields b alpha top q top claims rounds
        (rows_at j proof.inputs) s.fields.ext.zero
        o.claimed rows_here on_cosets (omega arith) below)
        ∙ ap (λ i. get_or (batch_word s.fields alpha top (joined rounds)) i s.fields.ext.zero)
        own_place
        ∙ ap (λ hs. get_or (get_or (map (λ h. batch_word s.fields alpha h (joined rounds)) hs) 0 [])
        q s.fields.ext.zero)
        (sym (instance_heights p claims s.fields.two_adicity in_range))

    same : GiveSame sums entries j q
    same = record { met = met; first = begins }

    sums_here : HasSums s.fields b alpha top claims proof.inputs j q
    sums_here = record {
      defined = sums_defined s.fields p top claims rounds o.claimed honest up_to q below;
      constants = λ some. sums_vanish s.fields p top claims rounds o.claimed honest up_to q below
          laws alpha (rows_at j proof.inputs) rows_here (omega (arith, top_bounds.0))
          (omega (arith, top_bounds.0, top_bounds.1));
    }

    holds_here : test.QueryHolds s p claims proof alpha betas positions j
    holds_here = record {
      sums = sums_here;
      ends = same_end s p top sums entries proof (rounds_of (test.log_arities p claims) betas) j q
          same (o.proved.chains_end words_are_low j inside);
    }

  good : AreOpeningsGood s p claims proof alpha betas positions
  good = record {
    inputs_open = inputs_opened s.fields p top s.opens_input positions within_word claims rounds
        proof.inputs
        o.claimed honest up_to o.inputs;
    rounds_open = same_rounds s p (test.log_arities p claims) top proof sums entries betas positions
        (length-positions s p claims proof c) same o.proved.rounds_open;
    queries_hold = holds_here;
  }

  -- the test accepts
  pub honest_accepted : FriAccepts s p claims proof c alpha
  honest_accepted = record {
    instance_of = is_instance;
    counts = o.proved.counts;
    canonical = record { batch = o.batch_canonical; in_test = o.proved.canonical };
    passes = o.proved.passes;
    openings = good;
  }

  -- and ends in the state in which the prover left the challenger
  pub honest_state : (test_replay s p claims proof c).state ≡ last
  honest_state = o.proved.state

-- where the work before the test passes too, and the opening goes on with the challenge and the
-- state that come of it
module _ {F E C Com Path InCom InPath : Type 0} (s : Setting F E C Com Path InCom InPath)
    (p : Parameters) (claims : List (CommitmentClaim E InCom)) (rounds : List (List (Opened F E)))
    (c : C) (proof : Proof F E Com Path InPath) (last : C) (laws : AreTwoAdic s.fields)
    (fit : DrawsFit s.moves (top_height p claims + s.extra_bits)) where
  abbrev before : BatchReplay C E
  before = batch_replayed s p claims proof c

  module _ (passes : IsTrue before.passes)
      (o : IsHonestlyOpened s p claims rounds before.alpha before.state proof last) where
    -- the scheme accepts
    pub honest_opening_accepted : Accepts s p claims proof c
    honest_opening_accepted = record {
      passes = passes;
      accepts = honest_accepted s p claims rounds before.alpha before.state proof last laws fit o;
    }
