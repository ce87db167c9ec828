-- States that the calls of a transcript reach.
use Rattle.std.proofs.Common.{◌≡◌, ℕ, List, Option, sym}
use Rattle.std.specs.List.{flat_map}
use Rattle.p3_challenger_core.specs.Run.{Moves, draws, grind_attempt}
use Rattle.p3_fri_pow.specs.Pow.{shown_attempt}
use Rattle.p3_fri_pow.specs.Reached.{Reaches}
use Rattle.p3_fri_pow.proofs.Reached.{reaches_same, reaches_join}
use Rattle.p3_fri_pow.proofs.Reached.{reaches_observed, reaches_drawn, reaches_all_observed}
use Rattle.p3_fri_pow.proofs.Reached.{reaches_draws, reaches_attempt, reaches_shown}
use Rattle.p3_fri_transcript.specs.Steps.{FriNumbers}
use Rattle.p3_fri_transcript.specs.Replay.{polynomial_observed}

module _ {C F E Com : Type 0} (m : Moves C F E Com) where
  -- a round up to its proof of work, whether it passes or not
  pub reaches_pow : (bits : ℕ) (before observed ground : C) (commitment : Com) (witness : F)
      → observed ≡ m.observe_commitment before commitment
      → ground ≡ (grind_attempt m.observe_value m.draw_bits observed bits witness).state
      → Reaches m before ground
  reaches_pow bits before observed ground commitment witness first second =
      let begun = reaches_same m before _ observed (reaches_observed m before commitment) (sym first) in
      reaches_join m before observed ground begun
      (reaches_same m observed _ ground (reaches_attempt m observed bits witness) (sym second))

  -- a round
  pub reaches_round : (bits : ℕ) (before observed ground after : C) (commitment : Com) (witness : F)
      → observed ≡ m.observe_commitment before commitment
      → ground ≡ (grind_attempt m.observe_value m.draw_bits observed bits witness).state
      → after ≡ (m.draw_element ground).state
      → Reaches m before after
  reaches_round bits before observed ground after commitment witness first second third =
      reaches_join m before ground after
      (reaches_pow bits before observed ground commitment witness first second)
      (reaches_same m ground _ after (reaches_drawn m ground) (sym third))

  module _ (coefficients : E → List F) where
    -- the final polynomial
    pub reaches_polynomial : (before observed : C) (final_poly : List E)
        → observed ≡ polynomial_observed m.observe_value coefficients before final_poly
        → Reaches m before observed
    reaches_polynomial before observed final_poly is =
        let all = reaches_all_observed m before (flat_map coefficients final_poly) in
        reaches_same m before _ observed all (sym is)

    -- the queries up to their proof of work, whether it passes or not
    pub reaches_tried : (bits : ℕ) (before observed ground : C) (final_poly : List E)
        (witness : Option F)
        → observed ≡ polynomial_observed m.observe_value coefficients before final_poly
        → ground ≡ (shown_attempt m.observe_value m.draw_bits observed bits witness).state
        → Reaches m before ground
    reaches_tried bits before observed ground final_poly witness first second =
        reaches_join m before observed ground (reaches_polynomial before observed final_poly first)
        (reaches_same m observed _ ground (reaches_shown m observed bits witness) (sym second))

    -- the queries
    pub reaches_queries : (shape : FriNumbers) (before observed ground after : C)
        (final_poly : List E) (witness : Option F)
        → observed ≡ polynomial_observed m.observe_value coefficients before final_poly
        → ground
        ≡ (shown_attempt m.observe_value m.draw_bits observed shape.query_pow_bits witness).state
        → after ≡ (draws (λ s. m.draw_bits s shape.index_bits) ground shape.num_queries).state
        → Reaches m before after
    reaches_queries shape before observed ground after final_poly witness first second third =
        reaches_join m before ground after
        (reaches_tried shape.query_pow_bits before observed ground final_poly witness first second)
        (reaches_same m ground _ after
        (reaches_draws m shape.index_bits ground shape.num_queries) (sym third))
