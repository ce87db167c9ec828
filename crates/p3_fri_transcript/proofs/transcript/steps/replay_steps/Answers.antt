use Rattle.std.proofs.Common.{◌≡◌, [], Err, inl, inr, refl, ap, ◌∙◌}
use Rattle.p3_challenger_core.specs.Run.{Moves, moves}
use Rattle.p3_fri_pow.proofs.Reached.{reaches_join, reaches_by_values}
use Rattle.p3_fri_transcript.specs.declared.transcript.failure.TranscriptFailure.TheVariants as Why
use Rattle.p3_fri_transcript.specs.Replay.{RoundsReplay, QueriesReplay, FriReplay}
use Rattle.p3_fri_transcript.specs.Shapes.{fri_shape}
use Rattle.p3_fri_transcript.proofs.Joining.{queries_joined}
use Rattle.p3_fri_transcript.proofs.Outcomes.{no_answer, no_refusal, same_refusal}
use Rattle.p3_fri_transcript.proofs.Refusals.{queries_failure_is}
use Rattle.p3_fri_transcript.proofs.Replays.{fri_passes, fri_queries_pass, queries_any}
use Rattle.p3_fri_transcript.proofs.transcript.steps.replay_steps.Given.{Over}
use Rattle.p3_fri_transcript.proofs.transcript.steps.replay_steps.Goals as goal

abbrev moves_of : (g : Over) → Moves g.row.C.Denot g.row.F.Denot g.row.EF.Denot g.row.Com.Denot
moves_of g =
    moves g.C.CanObserve-1.observed g.C.CanObserve-2.observed g.C.CanSample.sampled
    g.EF.ExtensionField.of_coefficients g.EF.ExtensionField.DIMENSION
    g.C.CanSampleBits.sampled_bits

pub returns-in-Err-clause-passes : goal.returns-in-Err-clause-passes
returns-in-Err-clause-passes g c = λ remembered.
    let sent = c.args.messages in
    let start = c.args.transcript.now.challenger.now in (
      (λ ok. no_answer ok),
      λ held.
          (c.in-Err.ensures.passes (λ same. remembered (
          let failed : c.in-Err.failure ≡ Why.OutOfMemory = same_refusal same in
          ap Err failed
          ))).1 (record {
            commitment_count = held.commitment_count;
            witness_count = held.witness_count;
            pow = fri_passes (moves_of g) g.EF.ExtensionField.coefficients
                (fri_shape c.args.transcript.now.shape) g.F.Field.ops [] start start
                sent.commitments.now sent.commit_witnesses.now sent.final_poly.now
                sent.query_witness refl held.pow;
          }),
    )

pub returns-in-Err-clause-failure : goal.returns-in-Err-clause-failure
returns-in-Err-clause-failure g c = inl c.in-Err.ensures.failure

pub returns-in-Err-query_phase-clause-passes : goal.returns-in-Err-query_phase-clause-passes
returns-in-Err-query_phase-clause-passes g c = λ remembered.
    let described = fri_shape c.args.transcript.now.shape in
    let sent = c.args.messages in
    let poly = sent.final_poly.now in
    let coefficients = g.EF.ExtensionField.coefficients in
    let start = c.args.transcript.now.challenger.now in
    let after = c.commit_rounds.new.self.challenger.now in
    let exact = rw c.in-Ok.ensures.kept.shape at c.in-Err-query_phase.ensures.passes in (
      (λ ok. no_answer ok),
      λ held.
          (exact (λ same. remembered (
          let failed : c.in-Err-query_phase.failure ≡ Why.OutOfMemory = same_refusal same in
          ap Err failed
          ))).1 (record {
            coefficient_count = held.coefficient_count;
            pow =
                ap (λ (q : QueriesReplay _). q.passes) (queries_any g.C.CanObserve-1.observed g.C.CanObserve-1.observed g.C.CanObserve-2.observed
                g.C.CanSample.sampled g.EF.ExtensionField.of_coefficients g.EF.ExtensionField.DIMENSION g.C.CanSampleBits.sampled_bits
                coefficients described after poly sent.query_witness)
                ∙ fri_queries_pass (moves_of g) coefficients described g.F.Field.ops [] start start
                sent.commitments.now sent.commit_witnesses.now poly sent.query_witness refl held.pow
                _ _ c.in-Ok.ensures.rounds;
          }),
    )

pub returns-in-Err-query_phase-clause-failure : goal.returns-in-Err-query_phase-clause-failure
returns-in-Err-query_phase-clause-failure g c =
    let described = fri_shape c.args.transcript.now.shape in
    let sent = c.args.messages in
    let start = c.args.transcript.now.challenger.now in
    let last = c.query_phase.new.self.challenger.now in
    let failure = c.in-Err-query_phase.failure in
    inr (
      (c.in-Ok.ensures.passes (λ same. no_refusal same)).0 refl,
      queries_failure_is (moves_of g) described start sent.commitments.now sent.commit_witnesses.now
          g.EF.ExtensionField.coefficients sent.final_poly.now sent.query_witness
          c.commit_rounds.new.self.challenger.now last last failure failure
          (rw c.in-Ok.ensures.kept.shape at c.in-Err-query_phase.ensures.failure)
          (ap (λ (r : RoundsReplay _ _). r.state) c.in-Ok.ensures.rounds) refl refl,
    )

pub returns-in-Err-query_phase-clause-reached : goal.returns-in-Err-query_phase-clause-reached
returns-in-Err-query_phase-clause-reached g c =
    reaches_join (moves_of g) _ _ _ c.in-Ok.ensures.reached
    (reaches_by_values g.C.CanObserve-1.observed g.C.CanObserve-2.observed g.C.CanSample.sampled
    g.EF.ExtensionField.of_coefficients g.EF.ExtensionField.DIMENSION
    g.C.CanSampleBits.sampled_bits _ _ c.in-Err-query_phase.ensures.reached)

pub returns-clause-replay : goal.returns-clause-replay
returns-clause-replay g c =
    let described = fri_shape c.args.transcript.now.shape in
    let sent = c.args.messages in
    let poly = sent.final_poly.now in
    let coefficients = g.EF.ExtensionField.coefficients in
    let start = c.args.transcript.now.challenger.now in
    let after = c.commit_rounds.new.self.challenger.now in
    let queries = rw c.in-Ok.ensures.kept.shape at c.in-Ok-query_phase.ensures.queries in
    queries_joined (moves_of g) coefficients described g.F.Field.ops [] start start after
    c.query_phase.new.self.challenger.now sent.commitments.now sent.commit_witnesses.now poly
    sent.query_witness _ _ refl c.in-Ok.ensures.rounds
    (queries_any g.C.CanObserve-1.observed g.C.CanObserve-2.observed g.C.CanObserve-1.observed
    g.C.CanSample.sampled g.EF.ExtensionField.of_coefficients g.EF.ExtensionField.DIMENSION
    g.C.CanSampleBits.sampled_bits coefficients described after poly sent.query_witness ∙ queries)

pub returns-clause-passes : goal.returns-clause-passes
returns-clause-passes g c = λ remembered.
    let counts = (c.in-Ok.ensures.passes (λ same. no_refusal same)).0 refl in
    let exact = rw c.in-Ok.ensures.kept.shape at c.in-Ok-query_phase.ensures.passes in
    let lengths = (exact (λ same. no_refusal same)).0 refl in (
      (λ ok. record {
        commitment_count = counts.commitment_count;
        witness_count = counts.witness_count;
        coefficient_count = lengths.coefficient_count;
        pow = ap (λ (t : FriReplay _ _). t.passes) (returns-clause-replay g c);
      }),
      λ held. refl,
    )

pub returns-clause-reached : goal.returns-clause-reached
returns-clause-reached g c =
    reaches_join (moves_of g) _ _ _ c.in-Ok.ensures.reached
    (reaches_by_values g.C.CanObserve-1.observed g.C.CanObserve-2.observed g.C.CanSample.sampled
    g.EF.ExtensionField.of_coefficients g.EF.ExtensionField.DIMENSION
    g.C.CanSampleBits.sampled_bits _ _ c.in-Ok-query_phase.ensures.reached)
