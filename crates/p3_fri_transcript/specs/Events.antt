-- A low-degree test as a run over events.
use Rattle.std.specs.Prelude.{◌≡◌, ℕ, ◌==◌, if◌then◌else◌, IsTrue, List, [], ◌∷◌, ◌++◌, map}
use Rattle.std.specs.Prelude.{replicate, Some}
use Rattle.std.specs.List.{flat_map}
use Rattle.algebra.specs.Field.{FieldOps, multiple}
use Rattle.p3_challenger_core.specs.Run.{After, Moves, Event, Drawn, run}
use Rattle.p3_challenger_core.specs.Run.Event.{ValueObserved, CommitmentObserved}
use Rattle.p3_challenger_core.specs.Run.Event.{ElementDrawn, BitsDrawn}
use Rattle.p3_challenger_core.specs.Run.Drawn.{Element, Bits}
use Rattle.p3_fri_transcript.specs.Steps.{FriNumbers}
use Rattle.p3_fri_transcript.specs.Replay.{FriReplay, fri_replay}

-- a proof of work: nothing at no bits, else its witness is observed and its bits are drawn
abbrev pub grind_events : {F Com : Type 0} → (bits : ℕ) (witness : F) → List (Event F Com)
grind_events bits witness = if bits == 0 then [] else ValueObserved witness ∷ BitsDrawn bits ∷ []

-- what it draws where it passes
abbrev pub grind_drawn : {E : Type 0} → (bits : ℕ) → List (Drawn E)
grind_drawn bits = if bits == 0 then [] else Bits 0 ∷ []

-- a round: its commitment, its proof of work, its challenge
abbrev pub round_events : {F Com : Type 0} → (bits : ℕ) (commitment : Com) (witness : F)
    → List (Event F Com)
round_events bits commitment witness =
    CommitmentObserved commitment ∷ (grind_events bits witness ++ ElementDrawn ∷ [])

-- the rounds of these commitments and witnesses, in order
abbrev pub rounds_events : {F Com : Type 0} → (bits : ℕ) (commitments : List Com)
    (witnesses : List F) → List (Event F Com)
rounds_events bits (commitment ∷ commitments) (witness ∷ witnesses) =
    round_events bits commitment witness ++ rounds_events bits commitments witnesses
rounds_events bits _ _ = []

-- what they draw where they pass
abbrev pub rounds_drawn : {E : Type 0} → (bits : ℕ) (betas : List E) → List (Drawn E)
rounds_drawn bits [] = []
rounds_drawn bits (beta ∷ betas) = grind_drawn bits ++ Element beta ∷ rounds_drawn bits betas

-- a whole test: the stream byte by byte, the rounds, the final polynomial, its proof of work, the
-- queries' indices
unfoldable pub fri_events : {F E Com : Type 0} → (E → List F) → FriNumbers → FieldOps F
    → (stream : List ℕ) (commitments : List Com) (witnesses : List F) (final_poly : List E)
    (witness : F) → List (Event F Com)
fri_events coefficients shape ops stream commitments witnesses final_poly witness =
    map ValueObserved (map (multiple ops) stream)
    ++ rounds_events shape.commit_pow_bits commitments witnesses
    ++ map ValueObserved (flat_map coefficients final_poly)
    ++ grind_events shape.query_pow_bits witness
    ++ replicate shape.num_queries (BitsDrawn shape.index_bits)

-- what a test draws where it passes
unfoldable pub fri_drawn : {E : Type 0} → FriNumbers → (betas : List E) (indices : List ℕ)
    → List (Drawn E)
fri_drawn shape betas indices =
    rounds_drawn shape.commit_pow_bits betas ++ grind_drawn shape.query_pow_bits ++ map Bits indices

module _ {C F E Com : Type 0} (m : Moves C F E Com) (coefficients : E → List F) (shape : FriNumbers)
    (ops : FieldOps F) (stream : List ℕ) (c : C) (commitments : List Com) (witnesses : List F)
    (final_poly : List E) (witness : F) where
  abbrev pub fri_events_run : After C (List (Drawn E))
  fri_events_run =
      run m c (fri_events coefficients shape ops stream commitments witnesses final_poly witness)

  abbrev pub fri_replayed : FriReplay C E
  fri_replayed =
      fri_replay m coefficients shape ops stream c commitments witnesses final_poly (Some witness)

  -- what the replay draws, and zero in each proof of work
  abbrev pub fri_replayed_drawn : List (Drawn E)
  fri_replayed_drawn = fri_drawn shape fri_replayed.betas fri_replayed.indices

  -- the run ends in the replay's state, and the replay passes exactly where the run draws that
  pub record IsRunOfFri : Type 0 where
    pub state : fri_events_run.state ≡ fri_replayed.state
    pub values : IsTrue fri_replayed.passes → fri_events_run.value ≡ fri_replayed_drawn
    pub passes : fri_events_run.value ≡ fri_replayed_drawn → IsTrue fri_replayed.passes
