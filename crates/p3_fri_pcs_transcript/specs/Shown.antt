-- Witnesses that a prover sends, and a verifier is shown.
use Rattle.std.specs.Prelude.{◌≡◌, ◌≢◌, ℕ, List, Option, Some}
use Rattle.algebra.specs.Field.{FieldOps}
use Rattle.p3_challenger_core.specs.Run.{Moves}
use Rattle.p3_fri_transcript.specs.Steps.{FriNumbers}
use Rattle.p3_fri_pcs_transcript.specs.Replay.{pcs_replay}
use Rattle.p3_fri_pcs_transcript.specs.Steps.{PcsNumbers}

-- where there are bits, this witness is shown
abbrev pub IsShown : {F : Type 0} → (bits : ℕ) (witness : F) (shown : Option F) → Type 0
IsShown bits witness shown = bits ≢ 0 → shown ≡ Some witness

-- to whom they are shown, the replay is the prover's: it passes alike, draws the same, and ends in
-- the same state
abbrev pub ReplaysAsShown : {C F E Com : Type 0} → Moves C F E Com → (E → List F) → FieldOps F
    → (d : ℕ) → PcsNumbers → FriNumbers → C → (values : List E) (batch_witness : F)
    (commitments : List Com) (witnesses : List F) (final_poly : List E) (witness : F) → Type 0
ReplaysAsShown {F = F} m coefficients ops d shape test c values batch_witness commitments witnesses
    final_poly witness =
    (shown_batch shown : Option F)
    → IsShown shape.batch_pow_bits batch_witness shown_batch
    → IsShown test.query_pow_bits witness shown
    → pcs_replay m coefficients ops d shape test c values shown_batch commitments witnesses
    final_poly shown
    ≡ pcs_replay m coefficients ops d shape test c values (Some batch_witness) commitments witnesses
    final_poly (Some witness)
