-- A PCS transcript with the low-degree test inside it is a run over events.
use Rattle.std.proofs.Common.{◌≡◌, ℕ, ◌==◌, List, ◌∷◌, ◌++◌, map, sym, ap, ◌∙◌, append_assoc}
use Rattle.std.specs.List.{flat_map}
use Rattle.algebra.specs.Field.{FieldOps, multiple}
use Rattle.p3_challenger_core.specs.Run.{After, Moves, Event, Drawn, run, observed_all}
use Rattle.p3_challenger_core.specs.Run.Event.{ValueObserved, ElementDrawn}
use Rattle.p3_challenger_core.specs.Run.Drawn.{Element}
use Rattle.p3_challenger_core.proofs.Runs.{run-observed_all}
use Rattle.p3_fri_transcript.specs.Steps.{FriNumbers, fri_stream}
use Rattle.p3_fri_pcs_transcript.specs.Steps.{PcsNumbers, pcs_stream}
use Rattle.p3_fri_pcs_transcript.specs.Replay.{claims_replay, pcs_replay}
use Rattle.p3_fri_transcript.specs.Events.{grind_events, fri_events, fri_drawn, fri_events_run, fri_replayed}
use Rattle.p3_fri_pcs_transcript.specs.Events.{pcs_events, pcs_drawn, pcs_events_run, pcs_replayed, IsRunOfPcs}
use Rattle.p3_fri_transcript.proofs.Events.{both, left_of, right_of, tried, grind-state, grind-values, grind-back, is_run_of_fri}

four_joined : {X : Type 0} (a b c d : List X) → a ++ b ++ c ++ d ≡ a ++ (b ++ (c ++ d))
four_joined a b c d = append_assoc (a ++ b) c d ∙ append_assoc a b (c ++ d)

module _ {C F E Com : Type 0} (m : Moves C F E Com) (coefficients : E → List F) (ops : FieldOps F) (d : ℕ) (shape : PcsNumbers) (test : FriNumbers) (c : C) (claims : List E) (batch_witness : F) (commitments : List Com) (witnesses : List F) (final_poly : List E) (witness : F) where
  abbrev claimed : C
  claimed = observed_all m.observe_value (observed_all m.observe_value c (map (multiple ops) (pcs_stream d shape))) (flat_map coefficients claims)

  abbrev events_of_fri : List (Event F Com)
  events_of_fri = fri_events coefficients test ops (fri_stream d test) commitments witnesses final_poly witness

  from_claimed : pcs_events_run m coefficients ops d shape test c claims batch_witness commitments witnesses final_poly witness
      ≡ run m claimed (grind_events shape.batch_pow_bits batch_witness ++ (ElementDrawn ∷ events_of_fri))
  unfolding pcs_events
  from_claimed =
      let bytes = map (multiple ops) (pcs_stream d shape) in
      let others = grind_events shape.batch_pow_bits batch_witness ++ (ElementDrawn ∷ events_of_fri) in
      ap (run m c) (four_joined (map ValueObserved bytes) (map ValueObserved (flat_map coefficients claims)) (grind_events shape.batch_pow_bits batch_witness) (ElementDrawn ∷ events_of_fri))
      ∙ run-observed_all m c bytes (map ValueObserved (flat_map coefficients claims) ++ others)
      ∙ run-observed_all m (observed_all m.observe_value c bytes) (flat_map coefficients claims) others

  pub is_run_of_pcs : IsRunOfPcs m coefficients ops d shape test c claims batch_witness commitments witnesses final_poly witness
  unfolding pcs_replay claims_replay pcs_drawn
  is_run_of_pcs =
      let value : After C (List (Drawn E)) → List (Drawn E) = λ a. a.value in
      let state : After C (List (Drawn E)) → C = λ a. a.state in
      let replay = pcs_replayed m coefficients ops d shape test c claims batch_witness commitments witnesses final_poly witness in
      let bits = shape.batch_pow_bits in
      let none = bits == 0 in
      let ground = tried m none claimed bits batch_witness in
      let alpha = m.draw_element ground.state in
      let tested = is_run_of_fri m coefficients test ops (fri_stream d test) alpha.state commitments witnesses final_poly witness in
      let fri_passes = (fri_replayed m coefficients test ops (fri_stream d test) alpha.state commitments witnesses final_poly witness).passes in
      let drawn = fri_drawn test replay.betas replay.indices in
      record {
        state = ap state from_claimed ∙ grind-state m none claimed bits batch_witness (ElementDrawn ∷ events_of_fri) ∙ tested.state;
        values = λ passes.
            ap value from_claimed
            ∙ grind-values m none claimed bits batch_witness (ElementDrawn ∷ events_of_fri) (Element alpha.value ∷ drawn) (left_of ground.value fri_passes passes)
            (ap (λ vs. Element alpha.value ∷ vs) (tested.values (right_of ground.value fri_passes passes)));
        passes = λ is.
            let after = grind-back m none claimed bits batch_witness (ElementDrawn ∷ events_of_fri) (Element alpha.value ∷ drawn) (sym (ap value from_claimed) ∙ is) in
            let others = after.1 in
            let same : (fri_events_run m coefficients test ops (fri_stream d test) alpha.state commitments witnesses final_poly witness).value ≡ drawn = cc others in
            both ground.value fri_passes after.0 (tested.passes same);
      }
