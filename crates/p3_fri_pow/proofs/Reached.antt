-- States that a challenger reaches, put together from what single calls do.
use Rattle.std.proofs.Common.{◌≡◌, ℕ, zero, suc, ◌==◌, Bool, true, false, if◌then◌else◌}
use Rattle.std.proofs.Common.{List, [], ◌∷◌, ◌++◌, Option, Some, None, refl, ap, ◌∙◌}
use Rattle.p3_challenger_core.specs.Run.{After, Moves, Event, run, observed_all, draws, grind_attempt}
use Rattle.p3_challenger_core.specs.Run.{moves}
use Rattle.p3_challenger_core.specs.Run.Event.{ValueObserved, CommitmentObserved}
use Rattle.p3_challenger_core.specs.Run.Event.{ElementDrawn, BitsDrawn}
use Rattle.p3_challenger_core.proofs.Runs.{runs_join}
use Rattle.p3_fri_pow.specs.Pow.{shown_attempt}
use Rattle.p3_fri_pow.specs.Reached.{Reaches}

module _ {C F E Com : Type 0} (m : Moves C F E Com) where
  -- nothing happens
  pub reaches_itself : (c d : C) → c ≡ d → Reaches m c d
  reaches_itself c d is = record { events = []; state = is }

  -- the last state under another name
  pub reaches_same : (c d e : C) → Reaches m c d → d ≡ e → Reaches m c e
  reaches_same c d e reached is = record { events = reached.events; state = reached.state ∙ is }

  -- one after another
  pub reaches_join : (c d e : C) → Reaches m c d → Reaches m d e → Reaches m c e
  reaches_join c d e first second = record {
    events = first.events ++ second.events;
    state =
        (runs_join m c first.events second.events).state
        ∙ ap (λ s. (run m s second.events).state) first.state ∙ second.state;
  }

  pub reaches_observed : (c : C) (d : Com) → Reaches m c (m.observe_commitment c d)
  reaches_observed c d = record { events = CommitmentObserved d ∷ []; state = refl }

  pub reaches_drawn : (c : C) → Reaches m c (m.draw_element c).state
  reaches_drawn c = record { events = ElementDrawn ∷ []; state = refl }

  pub reaches_all_observed : (c : C) (xs : List F) → Reaches m c (observed_all m.observe_value c xs)
  reaches_all_observed c [] = reaches_itself c c refl
  reaches_all_observed c (x ∷ xs) =
      let first : Reaches m c (m.observe_value c x) =
      record { events = ValueObserved x ∷ []; state = refl } in
      reaches_join c (m.observe_value c x) _ first (reaches_all_observed (m.observe_value c x) xs)

  pub reaches_draws : (bits : ℕ) (c : C) (n : ℕ)
      → Reaches m c (draws (λ s. m.draw_bits s bits) c n).state
  reaches_draws bits c zero = reaches_itself c c refl
  reaches_draws bits c (suc n) =
      let first : Reaches m c (m.draw_bits c bits).state =
      record { events = BitsDrawn bits ∷ []; state = refl } in
      reaches_join c (m.draw_bits c bits).state _ first
      (reaches_draws bits (m.draw_bits c bits).state n)

  tried : (none : Bool) (c : C) (bits : ℕ) (w : F) → After C Bool
  tried none c bits w =
      if none then record { value = true; state = c }
      else (let drawn = m.draw_bits (m.observe_value c w) bits in
      record { value = drawn.value == 0; state = drawn.state })

  reaches_tried : (none : Bool) (c : C) (bits : ℕ) (w : F) → Reaches m c (tried none c bits w).state
  unfolding tried
  reaches_tried true c bits w = reaches_itself c c refl
  reaches_tried false c bits w =
      record { events = ValueObserved w ∷ BitsDrawn bits ∷ []; state = refl }

  -- a proof of work, whether it passes or not
  pub reaches_attempt : (c : C) (bits : ℕ) (w : F)
      → Reaches m c (grind_attempt m.observe_value m.draw_bits c bits w).state
  unfolding tried
  reaches_attempt c bits w = reaches_tried (bits == 0) c bits w

  pub reaches_shown : (c : C) (bits : ℕ) (w : Option F)
      → Reaches m c (shown_attempt m.observe_value m.draw_bits c bits w).state
  reaches_shown c bits None = reaches_itself c c refl
  reaches_shown c bits (Some w) = reaches_attempt c bits w

module _ {C F E Com : Type 0} (observe : C → F → C) (commit : C → Com → C) (draw : C → After C F)
    (of_coefficients : List F → E) (dimension : ℕ) (draw_bits : C → ℕ → After C ℕ) where
  abbrev of_values : Moves C F E F
  of_values = moves observe observe draw of_coefficients dimension draw_bits

  abbrev of_both : Moves C F E Com
  of_both = moves observe commit draw of_coefficients dimension draw_bits

  as_values : List (Event F F) → List (Event F Com)
  as_values [] = []
  as_values (ValueObserved x ∷ events) = ValueObserved x ∷ as_values events
  as_values (CommitmentObserved x ∷ events) = ValueObserved x ∷ as_values events
  as_values (ElementDrawn ∷ events) = ElementDrawn ∷ as_values events
  as_values (BitsDrawn n ∷ events) = BitsDrawn n ∷ as_values events

  run_as_values : (c : C) (events : List (Event F F))
      → (run of_both c (as_values events)).state ≡ (run of_values c events).state
  unfolding as_values
  run_as_values c [] = refl
  run_as_values c (ValueObserved x ∷ events) = run_as_values (observe c x) events
  run_as_values c (CommitmentObserved x ∷ events) = run_as_values (observe c x) events
  run_as_values c (ElementDrawn ∷ events) =
      run_as_values (of_values.draw_element c).state events
  run_as_values c (BitsDrawn n ∷ events) = run_as_values (draw_bits c n).state events

  -- by values alone, and so also where commitments are observed
  pub reaches_by_values : (c d : C) → Reaches of_values c d → Reaches of_both c d
  reaches_by_values c d reached = record {
    events = as_values reached.events;
    state = run_as_values c reached.events ∙ reached.state;
  }
