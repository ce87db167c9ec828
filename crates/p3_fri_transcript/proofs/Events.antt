-- A low-degree test is a run over events.
use Rattle.std.proofs.Common.{◌≡◌, ℕ, zero, suc, ◌==◌, Bool, true, false, ◌&&◌, IsTrue}
use Rattle.std.proofs.Common.{if◌then◌else◌, List, [], ◌∷◌, ◌++◌, map, replicate, refl, sym, ap}
use Rattle.std.proofs.Common.{ap₂, ◌∙◌, append_assoc, eqb-true, eq-eqb}
use Rattle.std.specs.List.{flat_map}
use Rattle.algebra.specs.Field.{FieldOps, multiple}
use Rattle.p3_challenger_core.specs.Run.{After, Moves, Event, Drawn, run, observed_all, draws}
use Rattle.p3_challenger_core.specs.Run.Event.{ValueObserved, CommitmentObserved, ElementDrawn}
use Rattle.p3_challenger_core.specs.Run.Event.{BitsDrawn}
use Rattle.p3_challenger_core.specs.Run.Drawn.{Element, Bits}
use Rattle.p3_challenger_core.proofs.Runs.{run-observed_all}
use Rattle.p3_fri_transcript.specs.Steps.{FriNumbers}
use Rattle.p3_fri_transcript.specs.Replay.{rounds_replay, shown_queries_replay, fri_replay}
use Rattle.p3_fri_transcript.specs.Events.{grind_events, round_events, rounds_events, rounds_drawn}
use Rattle.p3_fri_transcript.specs.Events.{fri_events, fri_drawn, fri_events_run, fri_replayed}
use Rattle.p3_fri_transcript.specs.Events.{IsRunOfFri}

pub both : (p q : Bool) → p ≡ true → q ≡ true → p && q ≡ true
both p q left right = ap (λ b. b && q) left ∙ right

pub left_of : (p q : Bool) → p && q ≡ true → p ≡ true
left_of true q e = refl
left_of false q e = cc

pub right_of : (p q : Bool) → p && q ≡ true → q ≡ true
right_of true q e = e
right_of false q e = cc

five_joined : {X : Type 0} (a b c d e : List X)
    → a ++ b ++ c ++ d ++ e ≡ a ++ (b ++ (c ++ (d ++ e)))
five_joined a b c d e =
    append_assoc (a ++ b ++ c) d e ∙ append_assoc (a ++ b) c (d ++ e) ∙ append_assoc a b (c ++ (d ++ e))

module _ {C F E Com : Type 0} (m : Moves C F E Com) where
  -- a proof of work, by whether it has no bits
  abbrev pub tried : (none : Bool) (c : C) (bits : ℕ) (w : F) → After C Bool
  tried none c bits w =
      if none then record { value = true; state = c }
      else (let drawn = m.draw_bits (m.observe_value c w) bits in record { value = drawn.value == 0; state = drawn.state })

  abbrev pub grind : (none : Bool) (bits : ℕ) (w : F) → List (Event F Com)
  grind none bits w = if none then [] else ValueObserved w ∷ BitsDrawn bits ∷ []

  abbrev pub zero_if_some : (none : Bool) → List (Drawn E)
  zero_if_some none = if none then [] else Bits 0 ∷ []

  -- a run that begins with a proof of work: its last state, its values where that passes, and that it passes by them
  pub grind-state : (none : Bool) (c : C) (bits : ℕ) (w : F) (rest : List (Event F Com))
      → (run m c (grind none bits w ++ rest)).state ≡ (run m (tried none c bits w).state rest).state
  grind-state true c bits w rest = refl
  grind-state false c bits w rest = refl

  pub grind-values : (none : Bool) (c : C) (bits : ℕ) (w : F) (rest : List (Event F Com)) (tail : List (Drawn E))
      → IsTrue (tried none c bits w).value → (run m (tried none c bits w).state rest).value ≡ tail
      → (run m c (grind none bits w ++ rest)).value ≡ zero_if_some none ++ tail
  grind-values true c bits w rest tail passes is = is
  grind-values false c bits w rest tail passes is =
      ap₂ (λ (v : ℕ) (vs : List (Drawn E)). Bits v ∷ vs) (eqb-true (m.draw_bits (m.observe_value c w) bits).value 0 passes) is

  pub grind-back : (none : Bool) (c : C) (bits : ℕ) (w : F) (rest : List (Event F Com)) (tail : List (Drawn E))
      → (run m c (grind none bits w ++ rest)).value ≡ zero_if_some none ++ tail
      → IsTrue (tried none c bits w).value × ((run m (tried none c bits w).state rest).value ≡ tail)
  grind-back true c bits w rest tail is = (refl, is)
  grind-back false c bits w rest tail is =
      let drawn = m.draw_bits (m.observe_value c w) bits in
      let zero_drawn : drawn.value ≡ 0 = cc in
      let others : (run m drawn.state rest).value ≡ tail = cc in
      (eq-eqb drawn.value 0 zero_drawn, others)

  round_joined : (bits : ℕ) (d : Com) (w : F) (others rest : List (Event F Com))
      → (round_events bits d w ++ others) ++ rest ≡ CommitmentObserved d ∷ (grind_events bits w ++ (ElementDrawn ∷ (others ++ rest)))
  round_joined bits d w others rest =
      let ground = grind (bits == 0) bits w in
      ap (λ es. CommitmentObserved d ∷ es) (ap (λ es. es ++ rest) (append_assoc ground (ElementDrawn ∷ []) others) ∙ append_assoc ground (ElementDrawn ∷ others) rest)

  -- the same of rounds
  rounds-state : (bits : ℕ) (c : C) (ds : List Com) (ws : List F) (rest : List (Event F Com))
      → (run m c (rounds_events bits ds ws ++ rest)).state ≡ (run m (rounds_replay m bits c ds ws).state rest).state
  unfolding rounds_replay
  rounds-state bits c [] ws rest = refl
  rounds-state bits c (d ∷ ds) [] rest = refl
  rounds-state bits c (d ∷ ds) (w ∷ ws) rest =
      let observed = m.observe_commitment c d in
      let beta = m.draw_element (tried (bits == 0) observed bits w).state in
      let others = rounds_events bits ds ws in
      ap (λ es. (run m c es).state) (round_joined bits d w others rest)
      ∙ grind-state (bits == 0) observed bits w (ElementDrawn ∷ (others ++ rest))
      ∙ rounds-state bits beta.state ds ws rest

  rounds-values : (bits : ℕ) (c : C) (ds : List Com) (ws : List F) (rest : List (Event F Com)) (tail : List (Drawn E))
      → IsTrue (rounds_replay m bits c ds ws).passes → (run m (rounds_replay m bits c ds ws).state rest).value ≡ tail
      → (run m c (rounds_events bits ds ws ++ rest)).value ≡ rounds_drawn bits (rounds_replay m bits c ds ws).betas ++ tail
  unfolding rounds_replay
  rounds-values bits c [] ws rest tail passes is = is
  rounds-values bits c (d ∷ ds) [] rest tail passes is = is
  rounds-values bits c (d ∷ ds) (w ∷ ws) rest tail passes is =
      let observed = m.observe_commitment c d in
      let first = tried (bits == 0) observed bits w in
      let beta = m.draw_element first.state in
      let others = rounds_events bits ds ws in
      let left = rounds_replay m bits beta.state ds ws in
      let later = rounds-values bits beta.state ds ws rest tail (right_of first.value left.passes passes) is in
      ap (λ es. (run m c es).value) (round_joined bits d w others rest)
      ∙ grind-values (bits == 0) observed bits w (ElementDrawn ∷ (others ++ rest)) (Element beta.value ∷ (rounds_drawn bits left.betas ++ tail)) (left_of first.value left.passes passes) (ap (λ vs. Element beta.value ∷ vs) later)
      ∙ sym (append_assoc (zero_if_some (bits == 0)) (Element beta.value ∷ rounds_drawn bits left.betas) tail)

  rounds-back : (bits : ℕ) (c : C) (ds : List Com) (ws : List F) (rest : List (Event F Com)) (tail : List (Drawn E))
      → (run m c (rounds_events bits ds ws ++ rest)).value ≡ rounds_drawn bits (rounds_replay m bits c ds ws).betas ++ tail
      → IsTrue (rounds_replay m bits c ds ws).passes × ((run m (rounds_replay m bits c ds ws).state rest).value ≡ tail)
  unfolding rounds_replay
  rounds-back bits c [] ws rest tail is = (refl, is)
  rounds-back bits c (d ∷ ds) [] rest tail is = (refl, is)
  rounds-back bits c (d ∷ ds) (w ∷ ws) rest tail is =
      let observed = m.observe_commitment c d in
      let first = tried (bits == 0) observed bits w in
      let beta = m.draw_element first.state in
      let others = rounds_events bits ds ws in
      let left = rounds_replay m bits beta.state ds ws in
      let drawn =
      sym (ap (λ es. (run m c es).value) (round_joined bits d w others rest)) ∙ is
      ∙ append_assoc (zero_if_some (bits == 0)) (Element beta.value ∷ rounds_drawn bits left.betas) tail in
      let ground = grind-back (bits == 0) observed bits w (ElementDrawn ∷ (others ++ rest)) (Element beta.value ∷ (rounds_drawn bits left.betas ++ tail)) drawn in
      let after = ground.1 in
      let same : (run m beta.state (others ++ rest)).value ≡ rounds_drawn bits left.betas ++ tail = cc after in
      let those = rounds-back bits beta.state ds ws rest tail same in
      (both first.value left.passes ground.0 those.0, those.1)

  indices-run : (c : C) (bits n : ℕ)
      → run m c (replicate n (BitsDrawn bits)) ≡ (let drawn = draws (λ s. m.draw_bits s bits) c n in record { value = map Bits drawn.value; state = drawn.state })
  indices-run c bits zero = refl
  indices-run c bits (suc n) =
      let first = m.draw_bits c bits in
      ap (λ (a : After C (List (Drawn E))). record { value = Bits first.value ∷ a.value; state = a.state }) (indices-run first.state bits n)

module _ {C F E Com : Type 0} (m : Moves C F E Com) (coefficients : E → List F) (shape : FriNumbers) (ops : FieldOps F) (stream : List ℕ) (c : C) (commitments : List Com) (witnesses : List F) (final_poly : List E) (witness : F) where
  abbrev absorbed : C
  absorbed = observed_all m.observe_value c (map (multiple ops) stream)

  abbrev indices_events : List (Event F Com)
  indices_events = replicate shape.num_queries (BitsDrawn shape.index_bits)

  abbrev queries_events : List (Event F Com)
  queries_events = map ValueObserved (flat_map coefficients final_poly) ++ (grind_events shape.query_pow_bits witness ++ indices_events)

  from_absorbed : fri_events_run m coefficients shape ops stream c commitments witnesses final_poly witness
      ≡ run m absorbed (rounds_events shape.commit_pow_bits commitments witnesses ++ queries_events)
  unfolding fri_events
  from_absorbed =
      ap (run m c) (five_joined (map ValueObserved (map (multiple ops) stream)) (rounds_events shape.commit_pow_bits commitments witnesses) (map ValueObserved (flat_map coefficients final_poly)) (grind_events shape.query_pow_bits witness) indices_events)
      ∙ run-observed_all m c (map (multiple ops) stream) (rounds_events shape.commit_pow_bits commitments witnesses ++ queries_events)

  pub is_run_of_fri : IsRunOfFri m coefficients shape ops stream c commitments witnesses final_poly witness
  unfolding fri_replay shown_queries_replay fri_drawn
  is_run_of_fri =
      let value : After C (List (Drawn E)) → List (Drawn E) = λ a. a.value in
      let state : After C (List (Drawn E)) → C = λ a. a.state in
      let replay = fri_replayed m coefficients shape ops stream c commitments witnesses final_poly witness in
      let commit_bits = shape.commit_pow_bits in
      let rounds = rounds_replay m commit_bits absorbed commitments witnesses in
      let ready = observed_all m.observe_value rounds.state (flat_map coefficients final_poly) in
      let bits = shape.query_pow_bits in
      let none = bits == 0 in
      let ground = tried m none ready bits witness in
      let indices = map Bits replay.indices in
      let tail = zero_if_some m none ++ indices in
      let polynomial = run-observed_all m rounds.state (flat_map coefficients final_poly) (grind_events bits witness ++ indices_events) in
      let drawn = indices-run m ground.state shape.index_bits shape.num_queries in
      let regrouped = append_assoc (rounds_drawn commit_bits replay.betas) (zero_if_some m none) indices in
      record {
        state =
            ap state from_absorbed ∙ rounds-state m commit_bits absorbed commitments witnesses queries_events
            ∙ ap state polynomial ∙ grind-state m none ready bits witness indices_events ∙ ap state drawn;
        values = λ passes.
            let queries = ap value polynomial ∙ grind-values m none ready bits witness indices_events indices (right_of rounds.passes ground.value passes) (ap value drawn) in
            ap value from_absorbed
            ∙ rounds-values m commit_bits absorbed commitments witnesses queries_events tail (left_of rounds.passes ground.value passes) queries
            ∙ sym regrouped;
        passes = λ values.
            let played = rounds-back m commit_bits absorbed commitments witnesses queries_events tail (sym (ap value from_absorbed) ∙ values ∙ regrouped) in
            let queries = grind-back m none ready bits witness indices_events indices (sym (ap value polynomial) ∙ played.1) in
            both rounds.passes ground.value played.0 queries.0;
      }
