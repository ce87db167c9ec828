-- What is drawn along a test's transcript.
use Rattle.std.specs.Prelude.{◌≡◌, ◌⊎◌, ◌/◌, ◌^◌, ◌<◌, ℕ, List, map, All, Some, false, IsTrue}
use Rattle.algebra.specs.Field.{FieldOps}
use Rattle.p3_challenger_core.specs.Run.{Moves}
use Rattle.p3_challenger_fs.specs.Turns.{bytes_observed}
use Rattle.p3_fri_folding.specs.declared.pow_phase.PowPhase.TheVariants.{CommitPhase, Query}
use Rattle.p3_fri_transcript.specs.Steps.{FriNumbers, fri_stream}
use Rattle.p3_fri_transcript.specs.Replay.{FriReplay, fri_replay, rounds_replay}
use Rattle.p3_fri_transcript.specs.Replay.{shown_queries_replay}
use Rattle.p3_fri_relation.specs.declared.error.FriError.{FriError}
use Rattle.p3_fri_relation.specs.declared.error.FriError.TheVariants.{InvalidPowWitness}
use Rattle.p3_fri_relation.specs.declared.error.FriError.TheVariants.{OutOfMemory}
use Rattle.p3_fri_relation.specs.Setting.{Proof}

module _ {C F E Com Path InPath : Type 0} (m : Moves C F E Com) (coefficients : E → List F)
    (base : FieldOps F) (degree : ℕ) (numbers : FriNumbers) (proof : Proof F E Com Path InPath)
    (c : C) where
  -- the replay of a test of these numbers, with what the proof carries
  abbrev pub proof_replay : FriReplay C E
  proof_replay = fri_replay m coefficients numbers base (fri_stream degree numbers) c
      proof.commitments proof.commit_witnesses proof.final_poly (Some proof.query_witness)

  -- why it is refused
  abbrev pub ReplayFault : {A B : Type 0} → FriError A B → Type 0
  ReplayFault e =
      let seeded = bytes_observed base m.observe_value c (fri_stream degree numbers) in
      let rounds = rounds_replay m numbers.commit_pow_bits seeded proof.commitments
      proof.commit_witnesses in
      (e ≡ OutOfMemory)
      ⊎ ((e ≡ InvalidPowWitness CommitPhase) × (rounds.passes ≡ false))
      ⊎ ((e ≡ InvalidPowWitness Query)
      × ((shown_queries_replay m coefficients numbers rounds.state proof.final_poly
      (Some proof.query_witness)).passes ≡ false))

-- a replay passes: these are the challenges and the positions that it draws, and the state after it
pub record AreDrawn {C E : Type 0} (numbers : FriNumbers) (extra_bits : ℕ) (r : FriReplay C E)
    (betas : List E) (positions : List ℕ) (after : C) : Type 0 where
  pub passes : IsTrue r.passes
  pub betas_are : r.betas ≡ betas
  pub positions_are : map (λ index. index / 2 ^ extra_bits) r.indices ≡ positions
  pub state_is : r.state ≡ after
  pub below : All (λ index. index < 2 ^ numbers.index_bits) r.indices
