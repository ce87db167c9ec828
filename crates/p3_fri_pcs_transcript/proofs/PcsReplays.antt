-- A PCS transcript and the test inside it, put together from what single calls did.
use Rattle.std.proofs.Common.{◌≡◌, ℕ, zero, suc, Bool, true, ◌&&◌, List, Option, Some, sym, ap, ◌∙◌}
use Rattle.std.specs.List.{flat_map}
use Rattle.algebra.specs.Field.{FieldOps}
use Rattle.p3_challenger_core.specs.Run.{After, Moves, observed_all, draws}
use Rattle.p3_challenger_fs.specs.Turns.{bytes_observed}
use Rattle.p3_fri_pow.specs.Pow.{shown_attempt}
use Rattle.p3_fri_pow.specs.Reached.{Reaches}
use Rattle.p3_fri_pow.proofs.NoBits.{no_bits}
use Rattle.p3_fri_pow.proofs.Reached.{reaches_join, reaches_drawn, reaches_shown}
use Rattle.p3_fri_transcript.specs.Steps.{FriNumbers, fri_stream}
use Rattle.p3_fri_pcs_transcript.specs.Steps.{PcsNumbers, pcs_stream}
use Rattle.p3_fri_pcs_transcript.specs.Replay.{BatchReplay, shown_batch_replay, claims_observed, claims_replay, PcsReplay, pcs_replay}
use Rattle.p3_fri_transcript.specs.Replay.{FriReplay, QueriesReplay, rounds_replay, shown_queries_replay, fri_replay}
use Rattle.p3_fri_pcs_transcript.specs.Shown.{IsShown, ReplaysAsShown}
use Rattle.p3_fri_transcript.proofs.Events.{left_of}

module _ {C F E Com : Type 0} (m : Moves C F E Com) (coefficients : E → List F) (ops : FieldOps F) (d : ℕ) (shape : PcsNumbers) (test : FriNumbers) (c : C) (values : List E) (batch_witness : Option F) (commitments : List Com) (witnesses : List F) (final_poly : List E) (witness : Option F) where
  abbrev pub batched : BatchReplay C E
  batched = claims_replay m coefficients ops shape.batch_pow_bits (pcs_stream d shape) c values batch_witness

  abbrev pub fri_from : C → FriReplay C E
  fri_from s = fri_replay m coefficients test ops (fri_stream d test) s commitments witnesses final_poly witness

  abbrev pub pcs : PcsReplay C E
  pcs = pcs_replay m coefficients ops d shape test c values batch_witness commitments witnesses final_poly witness

  with_test : BatchReplay C E → PcsReplay C E
  with_test o =
      let t = fri_from o.state in
      record { passes = o.passes && t.passes; alpha = o.alpha; betas = t.betas; indices = t.indices; state = t.state }

  with_alpha : E → FriReplay C E → PcsReplay C E
  with_alpha alpha t = record { passes = t.passes; alpha = alpha; betas = t.betas; indices = t.indices; state = t.state }

  -- where both pass
  pcs_is : (inside last : C) (alpha : E) (betas : List E) (indices : List ℕ)
      → batched ≡ record { passes = true; alpha = alpha; state = inside }
      → fri_from inside ≡ record { passes = true; betas = betas; indices = indices; state = last }
      → pcs ≡ record { passes = true; alpha = alpha; betas = betas; indices = indices; state = last }
  unfolding pcs_replay with_test with_alpha
  pcs_is inside last alpha betas indices first second = ap with_test first ∙ ap (with_alpha alpha) second

  -- the stream and the values were absorbed, and then the proof of work made and the challenge drawn
  pub batch_joined : (started observed : C)
      → started ≡ bytes_observed ops m.observe_value c (pcs_stream d shape)
      → observed ≡ observed_all m.observe_value started (flat_map coefficients values)
      → batched ≡ shown_batch_replay m shape.batch_pow_bits observed batch_witness
  unfolding claims_replay
  batch_joined started observed first second =
      ap (λ s. shown_batch_replay m shape.batch_pow_bits s batch_witness)
      (sym (second ∙ ap (λ s. observed_all m.observe_value s (flat_map coefficients values)) first))

  -- where that passes, with the challenger lent in the state after it
  pub batch_lent : (started observed inside lent : C) (alpha : E)
      → started ≡ bytes_observed ops m.observe_value c (pcs_stream d shape)
      → observed ≡ observed_all m.observe_value started (flat_map coefficients values)
      → shown_batch_replay m shape.batch_pow_bits observed batch_witness ≡ record { passes = true; alpha = alpha; state = inside }
      → lent ≡ inside → batched ≡ record { passes = true; alpha = alpha; state = lent }
  batch_lent started observed inside lent alpha first second batch is =
      batch_joined started observed first second ∙ batch ∙ ap (λ s. record { passes = true; alpha = alpha; state = s }) (sym is)

  -- and then the test was run on it: all of it is the replay of the whole
  pub pcs_joined : (started observed inside lent last : C) (alpha : E) (betas : List E) (indices : List ℕ)
      → started ≡ bytes_observed ops m.observe_value c (pcs_stream d shape)
      → observed ≡ observed_all m.observe_value started (flat_map coefficients values)
      → shown_batch_replay m shape.batch_pow_bits observed batch_witness ≡ record { passes = true; alpha = alpha; state = inside }
      → lent ≡ inside → fri_from lent ≡ record { passes = true; betas = betas; indices = indices; state = last }
      → pcs ≡ record { passes = true; alpha = alpha; betas = betas; indices = indices; state = last }
  pcs_joined started observed inside lent last alpha betas indices first second batch is tested =
      pcs_is lent last alpha betas indices (batch_lent started observed inside lent alpha first second batch is) tested

  -- the batch passes where the whole does
  pub batch_passes : (started observed : C)
      → started ≡ bytes_observed ops m.observe_value c (pcs_stream d shape)
      → observed ≡ observed_all m.observe_value started (flat_map coefficients values)
      → pcs.passes ≡ true → (shown_batch_replay m shape.batch_pow_bits observed batch_witness).passes ≡ true
  unfolding pcs_replay
  batch_passes started observed first second pass =
      sym (ap (λ (r : BatchReplay C E). r.passes) (batch_joined started observed first second))
      ∙ left_of batched.passes (fri_from batched.state).passes pass

  -- and then the test does
  pub test_passes : (started observed inside lent : C) (alpha : E)
      → started ≡ bytes_observed ops m.observe_value c (pcs_stream d shape)
      → observed ≡ observed_all m.observe_value started (flat_map coefficients values)
      → shown_batch_replay m shape.batch_pow_bits observed batch_witness ≡ record { passes = true; alpha = alpha; state = inside }
      → lent ≡ inside → pcs.passes ≡ true → (fri_from lent).passes ≡ true
  unfolding pcs_replay with_test
  test_passes started observed inside lent alpha first second batch is pass =
      sym (ap (λ (o : BatchReplay C E). (with_test o).passes) (batch_lent started observed inside lent alpha first second batch is)) ∙ pass

-- the same with the last state under another name
pub pcs_ends : {C E : Type 0} (replay : PcsReplay C E) (alpha : E) (betas : List E) (indices : List ℕ) (last found : C)
    → replay ≡ record { passes = true; alpha = alpha; betas = betas; indices = indices; state = last } → last ≡ found
    → replay ≡ record { passes = true; alpha = alpha; betas = betas; indices = indices; state = found }
pcs_ends replay alpha betas indices last found is same = is ∙ ap (λ s. record { passes = true; alpha = alpha; betas = betas; indices = indices; state = s }) same

-- a witness that is shown where there are bits
shown_as : {C F : Type 0} (observe : C → F → C) (draw_bits : C → ℕ → After C ℕ) (c : C) (bits : ℕ) (witness : F) (shown : Option F)
    → IsShown bits witness shown → shown_attempt observe draw_bits c bits shown ≡ shown_attempt observe draw_bits c bits (Some witness)
shown_as observe draw_bits c zero witness shown is = no_bits observe draw_bits c shown ∙ sym (no_bits observe draw_bits c (Some witness))
shown_as observe draw_bits c (suc n) witness shown is = ap (λ w. shown_attempt observe draw_bits c (suc n) w) (is (λ none. cc))

module _ {C F E Com : Type 0} (m : Moves C F E Com) (coefficients : E → List F) (ops : FieldOps F) (d : ℕ) (shape : PcsNumbers) (test : FriNumbers) (c : C) (values : List E) (batch_witness : F) (commitments : List Com) (witnesses : List F) (final_poly : List E) (witness : F) where
  batch_as_shown : (shown : Option F) → IsShown shape.batch_pow_bits batch_witness shown
      → claims_replay m coefficients ops shape.batch_pow_bits (pcs_stream d shape) c values shown
      ≡ claims_replay m coefficients ops shape.batch_pow_bits (pcs_stream d shape) c values (Some batch_witness)
  unfolding claims_replay
  batch_as_shown shown is =
      ap (λ (tried : After C Bool). let alpha = m.draw_element tried.state in record { passes = tried.value; alpha = alpha.value; state = alpha.state })
      (shown_as m.observe_value m.draw_bits (claims_observed m coefficients ops (pcs_stream d shape) c values) shape.batch_pow_bits batch_witness shown is)

  queries_as_shown : (s : C) (shown : Option F) → IsShown test.query_pow_bits witness shown
      → shown_queries_replay m coefficients test s final_poly shown ≡ shown_queries_replay m coefficients test s final_poly (Some witness)
  unfolding shown_queries_replay
  queries_as_shown s shown is =
      ap (λ (tried : After C Bool). let drawn = draws (λ s'. m.draw_bits s' test.index_bits) tried.state test.num_queries in record { passes = tried.value; indices = drawn.value; state = drawn.state })
      (shown_as m.observe_value m.draw_bits (observed_all m.observe_value s (flat_map coefficients final_poly)) test.query_pow_bits witness shown is)

  fri_as_shown : (s : C) (shown : Option F) → IsShown test.query_pow_bits witness shown
      → fri_replay m coefficients test ops (fri_stream d test) s commitments witnesses final_poly shown
      ≡ fri_replay m coefficients test ops (fri_stream d test) s commitments witnesses final_poly (Some witness)
  unfolding fri_replay
  fri_as_shown s shown is =
      let rounds = rounds_replay m test.commit_pow_bits (bytes_observed ops m.observe_value s (fri_stream d test)) commitments witnesses in
      ap (λ (queries : QueriesReplay C). record { passes = rounds.passes && queries.passes; betas = rounds.betas; indices = queries.indices; state = queries.state })
      (queries_as_shown rounds.state shown is)

  pub replays_as_shown : ReplaysAsShown m coefficients ops d shape test c values batch_witness commitments witnesses final_poly witness
  unfolding pcs_replay with_test
  replays_as_shown shown_batch shown batch_is is =
      ap (with_test m coefficients ops d shape test c values shown_batch commitments witnesses final_poly shown) (batch_as_shown shown_batch batch_is)
      ∙ ap (λ (t : FriReplay C E). let batch = claims_replay m coefficients ops shape.batch_pow_bits (pcs_stream d shape) c values (Some batch_witness) in
      record { passes = batch.passes && t.passes; alpha = batch.alpha; betas = t.betas; indices = t.indices; state = t.state })
      (fri_as_shown (claims_replay m coefficients ops shape.batch_pow_bits (pcs_stream d shape) c values (Some batch_witness)).state shown is)

module _ {C F E Com : Type 0} (m : Moves C F E Com) where
  -- the proof of work and the challenge
  pub reaches_batch : (bits : ℕ) (c : C) (witness : Option F) → Reaches m c (shown_batch_replay m bits c witness).state
  reaches_batch bits c witness =
      reaches_join m c _ _ (reaches_shown m c bits witness) (reaches_drawn m (shown_attempt m.observe_value m.draw_bits c bits witness).state)
