-- What the replay of a shape draws, and why it is refused.
use Rattle.std.proofs.Common.{◌≡◌, ℕ, ◌/◌, ◌^◌, ◌<◌, List, map, sym, ap, ◌∙◌, subst, true}
use Rattle.std.specs.Prelude.{All, Some}
use Rattle.algebra.specs.Field.{FieldOps}
use Rattle.p3_challenger_core.specs.Run.{Moves}
use Rattle.p3_challenger_fs.specs.Turns.{bytes_observed}
use Rattle.p3_fri_transcript.specs.Steps.{FriNumbers, fri_stream}
use Rattle.p3_fri_transcript.specs.Replay.{FriReplay, fri_replay}
use Rattle.p3_fri_relation.specs.declared.error.FriError.{FriError}
use Rattle.p3_fri_relation.specs.Setting.{Proof}
use Rattle.p3_fri_verifier.specs.Draws.{proof_replay, ReplayFault, AreDrawn}
use Rattle.p3_fri_verifier.proofs.Replays.{Outcome}

-- the replay of a shape with these numbers, and of what the proof carries
module _ {C F E Com Path InPath : Type 0} (m : Moves C F E Com) (coefficients : E → List F)
    (base : FieldOps F) (degree : ℕ) (numbers : FriNumbers) (proof : Proof F E Com Path InPath)
    (c : C) (shape : FriNumbers) (commitments : List Com) (witnesses : List F)
    (final_poly : List E) where
  abbrev replay_of : FriNumbers → List Com → List F → List E → FriReplay C E
  replay_of n coms ws ys =
      fri_replay m coefficients n base (fri_stream degree n) c coms ws ys (Some proof.query_witness)

  -- how it ends that is refused for this reason
  abbrev Ended : {A B : Type 0} → FriError A B → FriNumbers → List Com → List F → List E → Type 0
  Ended e n coms ws ys = Outcome m coefficients n (bytes_observed base m.observe_value c (fri_stream degree n))
      coms ws ys proof.query_witness e

  module _ (e₁ : shape ≡ numbers) (e₂ : commitments ≡ proof.commitments)
      (e₃ : witnesses ≡ proof.commit_witnesses) (e₄ : final_poly ≡ proof.final_poly) where
    pub same_replay : replay_of shape commitments witnesses final_poly ≡ proof_replay m coefficients base degree numbers proof c
    same_replay = ap (λ n. replay_of n commitments witnesses final_poly) e₁
        ∙ ap (λ coms. replay_of numbers coms witnesses final_poly) e₂
        ∙ ap (λ ws. replay_of numbers proof.commitments ws final_poly) e₃
        ∙ ap (λ ys. replay_of numbers proof.commitments proof.commit_witnesses ys) e₄

    pub replay_fault : {A B : Type 0} (e : FriError A B) → Ended e shape commitments witnesses final_poly
        → ReplayFault m coefficients base degree numbers proof c e
    replay_fault e h =
        subst (λ n. Ended e n proof.commitments proof.commit_witnesses proof.final_poly) e₁
        (subst (λ coms. Ended e shape coms proof.commit_witnesses proof.final_poly) e₂
        (subst (λ ws. Ended e shape commitments ws proof.final_poly) e₃
        (subst (λ ys. Ended e shape commitments witnesses ys) e₄ h)))

    pub drawn_from : {extra_bits : ℕ} {betas : List E} {indices positions : List ℕ} {after : C}
        → replay_of shape commitments witnesses final_poly
        ≡ record { passes = true; betas = betas; indices = indices; state = after }
        → positions ≡ map (λ index. index / 2 ^ extra_bits) indices
        → All (λ index. index < 2 ^ shape.index_bits) indices
        → AreDrawn numbers extra_bits (proof_replay m coefficients base degree numbers proof c) betas positions after
    drawn_from {extra_bits} {betas} {indices} {positions} {after} replayed at below =
        let drawn : proof_replay m coefficients base degree numbers proof c
        ≡ record { passes = true; betas = betas; indices = indices; state = after } =
        sym same_replay ∙ replayed in
        record {
          passes = ap (λ r. r.passes) drawn;
          betas_are = ap (λ r. r.betas) drawn;
          positions_are = ap (λ r. map (λ index. index / 2 ^ extra_bits) r.indices) drawn ∙ sym at;
          state_is = ap (λ r. r.state) drawn;
          below = subst (λ xs. All (λ index. index < 2 ^ numbers.index_bits) xs) (sym (ap (λ r. r.indices) drawn))
              (subst (λ n. All (λ index. index < 2 ^ n.index_bits) indices) e₁ below);
        }
