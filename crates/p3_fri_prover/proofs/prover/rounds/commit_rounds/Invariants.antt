use Rattle.std.proofs.Common.{◌≡◌, ◌-◌, ◌^◌, ℕ, length, take}
use Rattle.algebra.specs.Nested.{lists}
use Rattle.p3_challenger_core.specs.Run.{moves}
use Rattle.p3_fri_transcript.specs.Turns.{RoundsLeft}
use Rattle.p3_fri_transcript.specs.Views.{state_of, left_of, shape_of, Kept}
use Rattle.p3_fri_prover.specs.Inputs.{of_length}
use Rattle.p3_fri_prover.specs.Rounds.{AreCommitted}
use Rattle.p3_fri_prover.proofs.prover.rounds.commit_rounds.Given as goal

abbrev pub invariant-loop-log_arity : goal.invariant-loop-log_arity
invariant-loop-log_arity g l =
    let d = g.EF.ExtensionField.DIMENSION in
    let m = moves g.C.CanObserve-1.observed g.C.CanObserve-2.observed g.C.CanSample.sampled
    g.EF.ExtensionField.of_coefficients d g.C.CanSampleBits.sampled_bits in
    let described = shape_of l.fn.transcript in
    record {
      kept : Kept l.fn.transcript l.transcript;
      steps : RoundsLeft d described (length l.log_arities - l.log_arity-index) (left_of l.transcript);
      so_far : (top : ℕ) → l.fn.word.len ≡ 2 ^ top
          → AreCommitted g.M.Mmcs.committed g.M.Mmcs.commitment_of m described.commit_pow_bits
          g.F.Field.ops.zero g.C.GrindingChallenger.solution g.EF.Field.ops
          (g.S.FriFoldingStrategy.row_fold l.folding)
          (λ k. of_length (lists l.inputs) (2 ^ k)) top l.fn.word.items (state_of l.fn.transcript)
          (take l.log_arity-index l.log_arities) l.rounds.commitments.items l.rounds.witnesses.items
          l.rounds.prover_data.items l.word.items (state_of l.transcript);
    }
