-- What both sides draw along a PCS transcript and the low-degree test inside it, and the state that
-- they end in.
use Rattle.std.specs.Prelude.{ℕ, Bool, ◌&&◌, List, Option, Some}
use Rattle.std.specs.List.{flat_map}
use Rattle.algebra.specs.Field.{FieldOps}
use Rattle.p3_challenger_core.specs.Run.{Moves, observed_all}
use Rattle.p3_challenger_fs.specs.Turns.{bytes_observed}
use Rattle.p3_fri_pow.specs.Pow.{shown_attempt}
use Rattle.p3_fri_transcript.specs.Steps.{FriNumbers, fri_stream}
use Rattle.p3_fri_pcs_transcript.specs.Steps.{PcsNumbers, pcs_stream}
use Rattle.p3_fri_transcript.specs.Replay.{fri_replay}

-- the challenge that batches the openings: whether the proof of work before it passes, the
-- challenge, and the state after it
pub record BatchReplay (C E : Type 0) : Type 0 where
  pub passes : Bool
  pub alpha : E
  pub state : C

-- a whole PCS transcript with the test inside it
pub record PcsReplay (C E : Type 0) : Type 0 where
  pub passes : Bool
  pub alpha : E
  pub betas : List E
  pub indices : List ℕ
  pub state : C

module _ {C F E Com : Type 0} (m : Moves C F E Com) where
  -- a proof of work is made, whose witness may be missing only at no bits, and the challenge that
  -- batches the openings is drawn
  abbrev pub shown_batch_replay : (bits : ℕ) (c : C) (witness : Option F) → BatchReplay C E
  shown_batch_replay bits c witness =
      let tried = shown_attempt m.observe_value m.draw_bits c bits witness in
      let alpha = m.draw_element tried.state in
      record { passes = tried.value; alpha = alpha.value; state = alpha.state }

  -- the same with a witness
  abbrev pub batch_replay : (bits : ℕ) (c : C) (witness : F) → BatchReplay C E
  batch_replay bits c witness = shown_batch_replay bits c (Some witness)

  module _ (coefficients : E → List F) (ops : FieldOps F) where
    -- the state before the proof of work: the stream is observed byte by byte, then all values in
    -- order
    abbrev pub claims_observed : (stream : List ℕ) (c : C) (values : List E) → C
    claims_observed stream c values =
        observed_all m.observe_value (bytes_observed ops m.observe_value c stream)
        (flat_map coefficients values)

    -- all of it before the bracket
    unfoldable pub claims_replay : (bits : ℕ) (stream : List ℕ) (c : C) (values : List E)
        (witness : Option F) → BatchReplay C E
    claims_replay bits stream c values witness =
        shown_batch_replay bits (claims_observed stream c values) witness

    -- and then the test; `d` is the degree of the extension
    unfoldable pub pcs_replay : (d : ℕ) (shape : PcsNumbers) (test : FriNumbers) (c : C)
        (values : List E) (batch_witness : Option F) (commitments : List Com) (witnesses : List F)
        (final_poly : List E) (witness : Option F) → PcsReplay C E
    pcs_replay d shape test c values batch_witness commitments witnesses final_poly witness =
        let stream = pcs_stream d shape in
        let batch = claims_replay shape.batch_pow_bits stream c values batch_witness in
        let tested = fri_replay m coefficients test ops (fri_stream d test) batch.state commitments
        witnesses final_poly witness in
        record {
          passes = batch.passes && tested.passes;
          alpha = batch.alpha;
          betas = tested.betas;
          indices = tested.indices;
          state = tested.state;
        }
