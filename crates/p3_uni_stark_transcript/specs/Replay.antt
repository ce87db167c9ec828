-- What is absorbed and drawn before an opening.
use Rattle.std.specs.Prelude.{ℕ, Option, Some, None}
use Rattle.std.specs.Option.{is_some}
use Rattle.algebra.specs.Field.{FieldOps}
use Rattle.p3_challenger_core.specs.Run.{Moves, After}
use Rattle.p3_challenger_fs.specs.Turns.{bytes_observed}
use Rattle.p3_uni_stark_transcript.specs.declared.transcript.StarkCommitments.{StarkCommitments}
use Rattle.p3_uni_stark_transcript.specs.Instance.{Instance}
use Rattle.p3_uni_stark_transcript.specs.Steps.{stark_stream}

-- the state after a value that there may be is observed
abbrev pub observed_if : {C T : Type 0} → (C → T → C) → C → Option T → C
observed_if observe c None = c
observed_if observe c (Some x) = observe c x

-- both challenges, and the state after them
pub record Replayed (C E : Type 0) : Type 0 where
  pub alpha : E
  pub zeta : E
  pub state : C

module _ {C F E Com : Type 0} (m : Moves C F E Com) where
  -- drawn after the commitments to the preprocessed columns and the trace
  abbrev pub alpha_drawn : C → (preprocessed : Option Com) (trace : Com) → After C E
  alpha_drawn c preprocessed trace = m.draw_element
      (m.observe_commitment (observed_if m.observe_commitment c preprocessed) trace)

  -- drawn after the commitments to the quotient and the random polynomials
  abbrev pub zeta_drawn : C → (quotient : Com) (random : Option Com) → After C E
  zeta_drawn c quotient random = m.draw_element
      (observed_if m.observe_commitment (m.observe_commitment c quotient) random)

  module _ (ops : FieldOps F) (d : ℕ) (canonical : F → ℕ) where
    -- the seed is absorbed, and then the commitments, with a challenge after the first and one
    -- after the last
    abbrev pub stark_replay : Instance F → StarkCommitments Com → C → Replayed C E
    stark_replay s commitments c =
        let seeded = bytes_observed ops m.observe_value c (stark_stream d canonical
        (is_some commitments.preprocessed) (is_some commitments.random) s) in
        let alpha = alpha_drawn seeded commitments.preprocessed commitments.trace in
        let zeta = zeta_drawn alpha.state commitments.quotient commitments.random in
        record { alpha = alpha.value; zeta = zeta.value; state = zeta.state }
