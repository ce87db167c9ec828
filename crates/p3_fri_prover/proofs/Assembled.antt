-- A proof of words, from what was played of its transcript and what was opened of its rounds.
use Rattle.std.proofs.Common.{◌≡◌, ◌≢◌, ℕ, ◌+◌, ◌-◌, ◌/◌, ◌^◌, ◌<◌, ◌≤◌, List, [], ◌∷◌, length}
use Rattle.std.proofs.Common.{get_or, map, sum, Option, refl, sym, ap, ◌∙◌, arith, subst}
use Rattle.std.specs.Prelude.{All, EachIndex}
use Rattle.std.specs.List.{AllZip}
use Rattle.algebra.specs.Field.{IsField, IsHomomorphism}
use Rattle.algebra.specs.Folds.{neighbours, LowersDegrees}
use Rattle.algebra.specs.TwoAdic.{AreRoots}
use Rattle.algebra.specs.Rounds.{after_rounds, final_polynomial}
use Rattle.algebra.proofs.FinalPolynomials.{length-final_polynomial}
use Rattle.algebra.proofs.Points.{lifted_roots}
use Rattle.p3_matrix.specs.declared.dense.RowMajorMatrix.{RowMajorMatrix}
use Rattle.p3_challenger_fs.specs.Turns.{bytes_observed}
use Rattle.p3_fri_folding.specs.Schedule.{IsStrictlyFalling, tallest}
use Rattle.p3_fri_pow.proofs.Found.{sent_zero}
use Rattle.p3_fri_transcript.specs.Replay.{polynomial_observed}
use Rattle.p3_fri_transcript.specs.Steps.{fri_stream}
use Rattle.p3_fri_transcript.proofs.Joining.{found_zero}
use Rattle.p3_fri_relation.specs.Setting.{Setting, Parameters, RoundOpening, Proof}
use Rattle.p3_fri_relation.specs.Setting.{final_height}
use Rattle.p3_fri_relation.specs.Queries.{rounds_of, heights_after, row_indices}
use Rattle.p3_fri_relation.specs.TestRounds.{HasSiblings, HasCounts, QueryEnds}
use Rattle.p3_fri_prover.specs.Inputs.{HaveHeights, input_of, AreInputs}
use Rattle.p3_fri_prover.specs.Openings.{index_into, OpensRows}
use Rattle.p3_fri_prover.specs.Played.{IsPlayed}
use Rattle.p3_fri_prover.specs.Proved.{log_arities, fri_numbers, replayed, positions}
use Rattle.p3_fri_prover.specs.Proved.{entries_met, AreLow, IsProved}
use Rattle.p3_fri_relation.specs.TallEnough.{IsTallEnough}
use Rattle.p3_fri_prover.specs.Rounds.{KeepWords, AreCommitted}
use Rattle.p3_fri_prover.proofs.Ways.{words, siblings_in}
use Rattle.p3_fri_prover.proofs.Committed.{word_so_far}
use Rattle.p3_fri_prover.proofs.Schedules.{arities_within, arities_total, last_word_long}
use Rattle.p3_fri_prover.proofs.Schedules.{final_polynomial_within}
use Rattle.p3_fri_prover.proofs.Heights.{heights_fall, some_height, first_height, first_length}
use Rattle.p3_fri_prover.proofs.Heights.{first_input}
use Rattle.p3_fri_prover.proofs.PlayedRounds.{rounds_by_height}
use Rattle.p3_fri_prover.proofs.Opened.{rounds_counted, siblings_of_words}
use Rattle.p3_fri_prover.proofs.Opened.{rows_of_words_open, have_siblings}
use Rattle.p3_fri_prover.proofs.Replayed.{positions_many, positions_below, replayed_passes}
use Rattle.p3_fri_prover.proofs.Replayed.{replayed_betas, replayed_state, replayed_positions}
use Rattle.p3_fri_prover.proofs.Proofs.{rounds_open, chains_end}

-- words of these log heights, of which `top` is the first's, and a proof of them
module _ {F E C Com Path InCom InPath Data X : Type 0}
    (committed : Data → List (RowMajorMatrix E)) (commitment_of : Data → Com)
    (s : Setting F E C Com Path InCom InPath) (p : Parameters) (heights : List ℕ) (top : ℕ)
    (inputs : List (List E)) (c seeded last : C) (proof : Proof F E Com Path InPath)
    (are_inputs : AreInputs top inputs) (have : HaveHeights heights inputs)
    (capped : 0 < p.max_log_arity) (solution : C → ℕ → Option F) (kept : List Data)
    (indices ps : List ℕ)
    (start : seeded ≡ bytes_observed s.fields.base s.moves.observe_value c
    (fri_stream s.fields.degree (fri_numbers p heights top s.extra_bits)))
    (played : IsPlayed committed commitment_of s.fields s.fold s.moves p.log_final_poly_len
    (fri_numbers p heights top s.extra_bits) top inputs seeded solution proof.commitments
    proof.commit_witnesses kept proof.final_poly proof.query_witness indices last)
    (shifted : ps ≡ map (λ i. i / 2 ^ s.extra_bits) indices)
    (view : X → RoundOpening E Path) (openings : List X)
    (rounds_are : proof.rounds ≡ map view openings)
    (count : length openings ≡ length (log_arities p heights top))
    (each : (k : ℕ) (o : X) (datum : Data) (matrix : RowMajorMatrix E)
    → k < length (log_arities p heights top) → committed (get_or kept k datum) ≡ matrix ∷ []
    → OpensRows s.opens_round (get_or (log_arities p heights top) k 0) matrix
    (map (λ q. index_into (log_arities p heights top) q k) ps) (commitment_of (get_or kept k datum))
    (view (get_or openings k o)).siblings (view (get_or openings k o)).path) where
  abbrev arities : List ℕ
  arities = log_arities p heights top

  abbrev first : List E
  first = get_or inputs 0 []

  abbrev betas : List E
  betas = (replayed s p heights top inputs c proof).betas

  abbrev places : List ℕ
  places = positions s p heights top inputs c proof

  abbrev folded_words : List (List E)
  folded_words = words s.fields.ext s.fold (input_of heights inputs) arities betas top first

  falling : IsStrictlyFalling heights
  falling = heights_fall top inputs are_inputs heights have

  is_top : tallest heights ≡ top
  is_top = first_height top inputs are_inputs heights have

  whole : length first ≡ 2 ^ top
  whole = first_length top inputs are_inputs heights have

  within : sum arities ≤ top
  within = arities_within p heights top falling is_top

  committed_rounds : AreCommitted committed commitment_of s.moves p.commit_pow_bits
      s.fields.base.zero solution s.fields.ext s.fold (input_of heights inputs) top first seeded
      arities proof.commitments proof.commit_witnesses kept played.word played.reached
  committed_rounds =
      rounds_by_height committed commitment_of s.fields s.fold s.moves solution p heights top
      s.extra_bits inputs seeded are_inputs have capped proof.commitments proof.commit_witnesses kept
      proof.final_poly proof.query_witness indices last played ps shifted

  same_betas : betas ≡ committed_rounds.betas
  same_betas = replayed_betas s p heights top inputs c proof seeded played.reached last
      committed_rounds.betas indices start committed_rounds.replay played.ended.queries

  same_places : places ≡ ps
  same_places = replayed_positions s p heights top inputs c proof seeded played.reached last
      committed_rounds.betas indices start committed_rounds.replay played.ended.queries ps shifted

  drawn : length betas ≡ length arities
  drawn = ap length same_betas ∙ committed_rounds.drawn

  many : length places ≡ p.num_queries
  many = ap length same_places
      ∙ positions_many (fri_numbers p heights top s.extra_bits) top s.extra_bits indices ps refl
      played.ended.drawn shifted

  below : (j : ℕ) → j < length places → get_or places j 0 < 2 ^ top
  below = subst (λ qs. (j : ℕ) → j < length qs → get_or qs j 0 < 2 ^ top) (sym same_places)
      (λ j l. positions_below (fri_numbers p heights top s.extra_bits) top s.extra_bits indices ps
      refl played.ended.drawn shifted j 0 l)

  keeps : KeepWords committed commitment_of arities folded_words proof.commitments kept
  keeps = subst (λ bs. KeepWords committed commitment_of arities
      (words s.fields.ext s.fold (input_of heights inputs) arities bs top first) proof.commitments
      kept) (sym same_betas) committed_rounds.words

  each_at_places : (k : ℕ) (o : X) (datum : Data) (matrix : RowMajorMatrix E) → k < length arities
      → committed (get_or kept k datum) ≡ matrix ∷ []
      → OpensRows s.opens_round (get_or arities k 0) matrix
      (map (λ q. index_into arities q k) places) (commitment_of (get_or kept k datum))
      (view (get_or openings k o)).siblings (view (get_or openings k o)).path
  each_at_places k o datum matrix l only =
      subst (λ qs. OpensRows s.opens_round (get_or arities k 0) matrix
      (map (λ q. index_into arities q k) qs) (commitment_of (get_or kept k datum))
      (view (get_or openings k o)).siblings (view (get_or openings k o)).path) (sym same_places)
      (each k o datum matrix l only)

  counted : length proof.rounds ≡ length arities
  counted = ap length rounds_are
      ∙ rounds_counted committed commitment_of s.opens_round s.fields.ext s.fold
      (input_of heights inputs) top first arities betas places drawn whole within below
      proof.commitments kept committed_rounds.commitments_made keeps view openings count
      committed_rounds.data_kept each_at_places

  siblings : (k : ℕ) (o : RoundOpening E Path) → k < length arities
      → (get_or proof.rounds k o).siblings
      ≡ map (λ q. siblings_in s.fields.ext s.fold (input_of heights inputs) arities betas top first
      q k) places
  siblings = subst (λ rs. (k : ℕ) (o : RoundOpening E Path) → k < length arities
      → (get_or rs k o).siblings
      ≡ map (λ q. siblings_in s.fields.ext s.fold (input_of heights inputs) arities betas top first
      q k) places) (sym rounds_are)
      (siblings_of_words committed commitment_of s.opens_round s.fields.ext s.fold
      (input_of heights inputs) top first arities betas places drawn whole within below
      proof.commitments kept committed_rounds.commitments_made keeps view openings count
      committed_rounds.data_kept each_at_places)

  opened : (k : ℕ) (com' : Com) (o : RoundOpening E Path) → k < length arities
      → s.opens_round (get_or proof.commitments k com')
      (record {
        width = 2 ^ get_or arities k 0;
        height = 2 ^ get_or (heights_after arities top) k 0;
      } ∷ [])
      (map (λ q. get_or (row_indices arities q) k 0) places)
      (map (λ q. neighbours (get_or folded_words k []) (get_or (row_indices arities q) k 0)
      (get_or arities k 0) ∷ []) places) (get_or proof.rounds k o).path
  opened = subst (λ rs. (k : ℕ) (com' : Com) (o : RoundOpening E Path) → k < length arities
      → s.opens_round (get_or proof.commitments k com')
      (record {
        width = 2 ^ get_or arities k 0;
        height = 2 ^ get_or (heights_after arities top) k 0;
      } ∷ [])
      (map (λ q. get_or (row_indices arities q) k 0) places)
      (map (λ q. neighbours (get_or folded_words k []) (get_or (row_indices arities q) k 0)
      (get_or arities k 0) ∷ []) places) (get_or rs k o).path) (sym rounds_are)
      (rows_of_words_open committed commitment_of s.opens_round s.fields.ext s.fold
      (input_of heights inputs) top first arities betas places drawn whole within below
      proof.commitments kept committed_rounds.commitments_made keeps view openings count
      committed_rounds.data_kept each_at_places)

  counted_siblings : AllZip (HasSiblings p.num_queries) arities proof.rounds
  counted_siblings = subst (λ rs. AllZip (HasSiblings p.num_queries) arities rs) (sym rounds_are)
      (have_siblings committed commitment_of s.opens_round s.fields.ext s.fold
      (input_of heights inputs) top first arities betas places drawn whole within below
      proof.commitments kept committed_rounds.commitments_made keeps view openings count
      committed_rounds.data_kept each_at_places p.num_queries many)

  last_length : length played.word ≡ 2 ^ (top - sum arities)
  last_length = word_so_far s.fields.ext s.fold (input_of heights inputs) top arities
      committed_rounds.betas first played.word committed_rounds.drawn whole
      committed_rounds.last_word

  -- where the fields are fields with roots, and the fold of a word is of as much lower a degree as
  -- it is shorter
  module _ (most num_data : ℕ) (base : IsField s.fields.base) (ext : IsField s.fields.ext)
      (lifts : IsHomomorphism s.fields.base s.fields.ext s.fields.lift)
      (roots : AreRoots s.fields.base s.fields.two_adicity s.fields.root)
      (falls : LowersDegrees s.fields.ext (λ k. s.fields.lift (s.fields.root k)) most s.fold)
      (enough : s.fields.two_adicity ≤ most) (small : top ≤ s.fields.two_adicity)
      (tall : All (IsTallEnough p) heights) (batches : length proof.inputs ≡ num_data) where
    abbrev lifted : ℕ → E
    lifted k = s.fields.lift (s.fields.root k)

    final_length : length proof.final_poly ≡ 2 ^ p.log_final_poly_len
    final_length =
        let some = some_height top inputs are_inputs heights have in
        ap length played.ended.polynomial
        ∙ length-final_polynomial s.fields.ext ext s.fields.two_adicity lifted
        (lifted_roots s.fields.base s.fields.ext s.fields.lift base ext lifts s.fields.two_adicity
        s.fields.root roots) p.log_final_poly_len played.word
        (final_polynomial_within p heights top falling is_top some tall s.fields.two_adicity small)
        (last_word_long p heights top falling is_top some tall (length played.word) last_length)

    counts : HasCounts p proof arities num_data
    counts = record {
      commitments = committed_rounds.commitments_made;
      commit_witnesses = committed_rounds.witnesses_found;
      rounds = counted_siblings;
      inputs = batches;
      final_poly = final_length;
    }

    falls_within : LowersDegrees s.fields.ext lifted s.fields.two_adicity s.fold
    falls_within h a d beta ys l is_word =
        let within_most : h + a ≤ most = omega (arith, l, enough) in
        falls h a d beta ys within_most is_word

    final : proof.final_poly ≡ final_polynomial s.fields.ext lifted p.log_final_poly_len
        (after_rounds s.fields.ext s.fold (input_of heights inputs) top (rounds_of arities betas)
        first)
    final = played.ended.polynomial
        ∙ ap (λ word. final_polynomial s.fields.ext lifted p.log_final_poly_len word)
        (committed_rounds.last_word
        ∙ ap (λ bs. after_rounds s.fields.ext s.fold (input_of heights inputs) top
        (rounds_of arities bs) first) (sym same_betas))

    ends : AreLow s p heights top inputs c proof
        → EachIndex places (QueryEnds s p arities top proof
        (entries_met s.fields.ext heights top inputs) betas places)
    ends low =
        chains_end s p heights top inputs c proof drawn whole within below many counted
        committed_rounds.commitments_made siblings opened s.fields.two_adicity base ext lifts roots
        small falls_within (first_input top inputs are_inputs heights have)
        (arities_total p heights top falling is_top
        (subst (λ h. final_height p ≤ h) is_top (tall_first heights
        (some_height top inputs are_inputs heights have) low.tall_enough))) final low
      where
        tall_first : (hs : List ℕ) → hs ≢ [] → All (λ h. final_height p ≤ h) hs
            → final_height p ≤ tallest hs
        tall_first [] some each = absurd (some refl)
        tall_first (h ∷ hs) some each = each 0 0 (omega arith)

    pub is_proved : IsProved s p heights top inputs c proof num_data last
    is_proved = record {
      counts = counts;
      canonical = record {
        commit = found_zero s.moves s.fields.base.zero solution p.commit_pow_bits seeded
            proof.commitments proof.commit_witnesses
            (committed_rounds.witnesses_found ∙ sym committed_rounds.commitments_made)
            committed_rounds.found;
        query = sent_zero s.fields.base.zero solution
            (polynomial_observed s.moves.observe_value s.fields.coefficients played.reached
            proof.final_poly) p.query_pow_bits proof.query_witness played.ended.found;
      };
      passes = replayed_passes s p heights top inputs c proof seeded played.reached last
          committed_rounds.betas indices start committed_rounds.replay played.ended.queries;
      state = replayed_state s p heights top inputs c proof seeded played.reached last
          committed_rounds.betas indices start committed_rounds.replay played.ended.queries;
      rounds_open = rounds_open s p heights top inputs c proof drawn whole within below many counted
          committed_rounds.commitments_made siblings opened;
      chains_end = ends;
    }
