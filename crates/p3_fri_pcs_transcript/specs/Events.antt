-- A PCS transcript, and the low-degree test inside it, as a run over events.
use Rattle.std.specs.Prelude.{◌≡◌, ℕ, IsTrue, List, ◌∷◌, ◌++◌, map, Some}
use Rattle.std.specs.List.{flat_map}
use Rattle.algebra.specs.Field.{FieldOps, multiple}
use Rattle.p3_challenger_core.specs.Run.{After, Moves, Event, Drawn, run}
use Rattle.p3_challenger_core.specs.Run.Event.{ValueObserved, ElementDrawn}
use Rattle.p3_challenger_core.specs.Run.Drawn.{Element}
use Rattle.p3_fri_transcript.specs.Steps.{FriNumbers, fri_stream}
use Rattle.p3_fri_pcs_transcript.specs.Steps.{PcsNumbers, pcs_stream}
use Rattle.p3_fri_pcs_transcript.specs.Replay.{PcsReplay, pcs_replay}
use Rattle.p3_fri_transcript.specs.Events.{grind_events, grind_drawn, fri_events, fri_drawn}

-- the whole of it: its stream byte by byte, all values in order, its proof of work, its challenge,
-- and the test
unfoldable pub pcs_events : {F E Com : Type 0} → (E → List F) → FieldOps F → (d : ℕ) → PcsNumbers
    → FriNumbers → (values : List E) (batch_witness : F) (commitments : List Com)
    (witnesses : List F) (final_poly : List E) (witness : F) → List (Event F Com)
pcs_events coefficients ops d shape test values batch_witness commitments witnesses final_poly
    witness =
    map ValueObserved (map (multiple ops) (pcs_stream d shape))
    ++ map ValueObserved (flat_map coefficients values)
    ++ grind_events shape.batch_pow_bits batch_witness
    ++ (ElementDrawn ∷ fri_events coefficients test ops (fri_stream d test) commitments witnesses
    final_poly witness)

-- what is drawn where it passes
unfoldable pub pcs_drawn : {E : Type 0} → PcsNumbers → FriNumbers → (alpha : E) (betas : List E)
    (indices : List ℕ) → List (Drawn E)
pcs_drawn shape test alpha betas indices =
    grind_drawn shape.batch_pow_bits ++ (Element alpha ∷ fri_drawn test betas indices)

module _ {C F E Com : Type 0} (m : Moves C F E Com) (coefficients : E → List F) (ops : FieldOps F)
    (d : ℕ) (shape : PcsNumbers) (test : FriNumbers) (c : C) (claims : List E)
    (batch_witness : F) (commitments : List Com) (witnesses : List F) (final_poly : List E)
    (witness : F) where
  abbrev pub pcs_events_run : After C (List (Drawn E))
  pcs_events_run =
      run m c (pcs_events coefficients ops d shape test claims batch_witness commitments witnesses
      final_poly witness)

  abbrev pub pcs_replayed : PcsReplay C E
  pcs_replayed =
      pcs_replay m coefficients ops d shape test c claims (Some batch_witness) commitments witnesses
      final_poly (Some witness)

  abbrev pub pcs_drawn_there : List (Drawn E)
  pcs_drawn_there = pcs_drawn shape test pcs_replayed.alpha pcs_replayed.betas pcs_replayed.indices

  -- the replay ends in the run's state, and where it passes, and only there, the run draws this
  pub record IsRunOfPcs : Type 0 where
    pub state : pcs_events_run.state ≡ pcs_replayed.state
    pub values : IsTrue pcs_replayed.passes → pcs_events_run.value ≡ pcs_drawn_there
    pub passes : pcs_events_run.value ≡ pcs_drawn_there → IsTrue pcs_replayed.passes
