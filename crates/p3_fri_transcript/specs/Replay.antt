-- What both sides draw along a low-degree test, and the state that they end in.
use Rattle.std.specs.Prelude.{ℕ, Bool, true, ◌&&◌, List, [], ◌∷◌, ◌++◌, Option, Some}
use Rattle.std.specs.List.{flat_map}
use Rattle.algebra.specs.Field.{FieldOps}
use Rattle.p3_challenger_core.specs.Run.{Moves, observed_all, draws, grind_attempt}
use Rattle.p3_challenger_fs.specs.Turns.{bytes_observed}
use Rattle.p3_fri_pow.specs.Pow.{shown_attempt}
use Rattle.p3_fri_transcript.specs.Steps.{FriNumbers}

-- the rounds of a test: whether each proof of work passes, the challenges, and the state after them
pub record RoundsReplay (C E : Type 0) : Type 0 where
  pub passes : Bool
  pub betas : List E
  pub state : C

-- its queries
pub record QueriesReplay (C : Type 0) : Type 0 where
  pub passes : Bool
  pub indices : List ℕ
  pub state : C

-- a whole test
pub record FriReplay (C E : Type 0) : Type 0 where
  pub passes : Bool
  pub betas : List E
  pub indices : List ℕ
  pub state : C

-- the state after the polynomial's coefficients are observed
abbrev pub polynomial_observed : {C F E : Type 0} → (C → F → C) → (E → List F) → C → List E → C
polynomial_observed observe coefficients c final_poly =
    observed_all observe c (flat_map coefficients final_poly)

module _ {C F E Com : Type 0} (m : Moves C F E Com) where
  -- one round: its commitment is observed, its proof of work made with the witness, its challenge
  -- drawn
  abbrev pub round_replay : (bits : ℕ) (c : C) (commitment : Com) (witness : F) → RoundsReplay C E
  round_replay bits c commitment witness =
      let observed = m.observe_commitment c commitment in
      let tried = grind_attempt m.observe_value m.draw_bits observed bits witness in
      let beta = m.draw_element tried.state in
      record { passes = tried.value; betas = beta.value ∷ []; state = beta.state }

  -- the rounds of these commitments and witnesses, in order
  unfoldable pub rounds_replay : (bits : ℕ) (c : C) (commitments : List Com) (witnesses : List F)
      → RoundsReplay C E
  rounds_replay bits c (commitment ∷ commitments) (witness ∷ witnesses) =
      let first = round_replay bits c commitment witness in
      let others = rounds_replay bits first.state commitments witnesses in
      record {
        passes = first.passes && others.passes;
        betas = first.betas ++ others.betas;
        state = others.state;
      }
  rounds_replay bits c _ _ = record { passes = true; betas = []; state = c }

  module _ (coefficients : E → List F) (shape : FriNumbers) where
    -- the final polynomial is observed, a proof of work made, whose witness may be missing only at
    -- no bits, and the indices are drawn
    unfoldable pub shown_queries_replay : (c : C) (final_poly : List E) (witness : Option F)
        → QueriesReplay C
    shown_queries_replay c final_poly witness =
        let observed = polynomial_observed m.observe_value coefficients c final_poly in
        let bits = shape.query_pow_bits in
        let tried = shown_attempt m.observe_value m.draw_bits observed bits witness in
        let drawn = draws (λ s. m.draw_bits s shape.index_bits) tried.state shape.num_queries in
        record { passes = tried.value; indices = drawn.value; state = drawn.state }

    -- the same with a witness
    abbrev pub queries_replay : (c : C) (final_poly : List E) (witness : F) → QueriesReplay C
    queries_replay c final_poly witness = shown_queries_replay c final_poly (Some witness)

    -- the stream is observed byte by byte, then come the rounds and the queries
    unfoldable pub fri_replay : FieldOps F → (stream : List ℕ) (c : C) (commitments : List Com)
        (witnesses : List F) (final_poly : List E) (witness : Option F) → FriReplay C E
    fri_replay ops stream c commitments witnesses final_poly witness =
        let seeded = bytes_observed ops m.observe_value c stream in
        let rounds = rounds_replay shape.commit_pow_bits seeded commitments witnesses in
        let queries = shown_queries_replay rounds.state final_poly witness in
        record {
          passes = rounds.passes && queries.passes;
          betas = rounds.betas;
          indices = queries.indices;
          state = queries.state;
        }
