use Rattle.std.proofs.Common.{◌≡◌, Err, refl, sym, ap, ◌∙◌, rules}
use Rattle.p3_challenger_core.specs.Run.{Moves, moves}
use Rattle.p3_challenger_fs.specs.Turns.{bytes_observed}
use Rattle.p3_fri_pow.proofs.Reached.{reaches_same}
use Rattle.p3_fri_transcript.specs.declared.transcript.failure.TranscriptFailure.TheVariants as Why
use Rattle.p3_fri_transcript.specs.declared.transcript.play.Refusal.TheVariants.{Step}
use Rattle.p3_fri_transcript.specs.Replay.{FriReplay}
use Rattle.p3_fri_transcript.specs.Shapes.{fri_shape}
use Rattle.p3_fri_transcript.specs.Steps.{fri_stream}
use Rattle.p3_fri_transcript.proofs.Joining.{replay_absorbed}
use Rattle.p3_fri_transcript.proofs.Outcomes.{no_answer, no_refusal, same_refusal, no_seed, same_step}
use Rattle.p3_fri_transcript.proofs.Refusals.{fri_failure_is}
use Rattle.p3_fri_transcript.proofs.Replays.{fri_ends}
use Rattle.p3_fri_transcript.proofs.TurnLists.{all_rounds_left}
use Rattle.p3_fri_transcript.proofs.transcript.play.replay_fri.Given.{Over}
use Rattle.p3_fri_transcript.proofs.transcript.play.replay_fri.Goals as goal

abbrev moves_of : (g : Over) → Moves g.row.C.Denot g.row.F.Denot g.row.EF.Denot g.row.Com.Denot
moves_of g =
    moves g.C.CanObserve-1.observed g.C.CanObserve-2.observed g.C.CanSample.sampled
    g.EF.ExtensionField.of_coefficients g.EF.ExtensionField.DIMENSION
    g.C.CanSampleBits.sampled_bits

pub replay_steps-replayed-requires-clause-no_round_played : goal.replay_steps-replayed-requires-clause-no_round_played
replay_steps-replayed-requires-clause-no_round_played g c =
    all_rounds_left g.EF.ExtensionField.DIMENSION (fri_shape c.args.shape) _ _
    c.start-transcript.ensures.starts.shape
    (c.start-transcript.ensures.steps ∙ c.in-Ok.ensures.turns)

pub returns-in-Ok-replayed-clause-replay : goal.returns-in-Ok-replayed-clause-replay
returns-in-Ok-replayed-clause-replay g c =
    let described = fri_shape c.args.shape in
    let begun = c.start-transcript in
    let seeded =
    begun.ensures.starts.state
    ∙ ap (λ bytes. bytes_observed g.F.Field.ops g.C.CanObserve-1.observed c.args.challenger.now bytes)
    c.in-Ok.ensures.stream in
    let sent = c.args.messages in
    let whole =
    replay_absorbed (moves_of g) g.EF.ExtensionField.coefficients described g.F.Field.ops
    (fri_stream g.EF.ExtensionField.DIMENSION described) c.args.challenger.now
    begun.result.challenger.now seeded sent.commitments.now sent.commit_witnesses.now
    sent.final_poly.now sent.query_witness
    ∙ rw begun.ensures.starts.shape at c.in-Ok-replayed.ensures.replay in
    fri_ends _ _ _ _ _ whole (search rules)

pub returns-in-Ok-replayed-clause-passes : goal.returns-in-Ok-replayed-clause-passes
returns-in-Ok-replayed-clause-passes g c = λ started remembered.
    let exact = rw c.start-transcript.ensures.starts.shape at c.in-Ok-replayed.ensures.passes in
    let counts = (exact (λ same. no_refusal same)).0 refl in (
      (λ ok. record {
        commitment_count = counts.commitment_count;
        witness_count = counts.witness_count;
        coefficient_count = counts.coefficient_count;
        pow = ap (λ (t : FriReplay _ _). t.passes) (returns-in-Ok-replayed-clause-replay g c);
      }),
      λ held. refl,
    )

pub returns-in-Ok-replayed-clause-indices : goal.returns-in-Ok-replayed-clause-indices
returns-in-Ok-replayed-clause-indices g c =
    rw c.start-transcript.ensures.starts.shape at c.in-Ok-replayed.ensures.indices

pub returns-in-Ok-replayed-clause-absorbed : goal.returns-in-Ok-replayed-clause-absorbed
returns-in-Ok-replayed-clause-absorbed g c = λ started.
    let seeded =
    c.start-transcript.ensures.starts.state
    ∙ ap (λ bytes. bytes_observed g.F.Field.ops g.C.CanObserve-1.observed c.args.challenger.now bytes)
    c.in-Ok.ensures.stream in
    let reached = rw seeded at c.in-Ok-replayed.ensures.reached in
    reaches_same (moves_of g) _ _ _ reached (search rules)

pub returns-in-Err-replayed-clause-passes : goal.returns-in-Err-replayed-clause-passes
returns-in-Err-replayed-clause-passes g c = λ started remembered.
    let described = fri_shape c.args.shape in
    let begun = c.start-transcript in
    let seeded =
    begun.ensures.starts.state
    ∙ ap (λ bytes. bytes_observed g.F.Field.ops g.C.CanObserve-1.observed c.args.challenger.now bytes)
    c.in-Ok.ensures.stream in
    let sent = c.args.messages in
    let exact = rw begun.ensures.starts.shape at c.in-Err-replayed.ensures.passes in (
      (λ ok. no_answer ok),
      λ held.
          (exact (λ same. remembered (
          let failed : c.in-Err-replayed.failure ≡ Why.OutOfMemory = same_refusal same in
          ap (λ f. Err (Step f)) failed
          ))).1 (record {
            commitment_count = held.commitment_count;
            witness_count = held.witness_count;
            coefficient_count = held.coefficient_count;
            pow =
                sym (ap (λ (t : FriReplay _ _). t.passes) (replay_absorbed (moves_of g)
                g.EF.ExtensionField.coefficients described g.F.Field.ops
                (fri_stream g.EF.ExtensionField.DIMENSION described) c.args.challenger.now
                begun.result.challenger.now seeded sent.commitments.now sent.commit_witnesses.now
                sent.final_poly.now sent.query_witness))
                ∙ held.pow;
          }),
    )

pub returns-in-Err-replayed-clause-failure : goal.returns-in-Err-replayed-clause-failure
returns-in-Err-replayed-clause-failure g c = λ e is.
    let described = fri_shape c.args.shape in
    let begun = c.start-transcript in
    let seeded =
    begun.ensures.starts.state
    ∙ ap (λ bytes. bytes_observed g.F.Field.ops g.C.CanObserve-1.observed c.args.challenger.now bytes)
    c.in-Ok.ensures.stream in
    let start =
    bytes_observed g.F.Field.ops g.C.CanObserve-1.observed c.args.challenger.now
    (fri_stream g.EF.ExtensionField.DIMENSION described) in
    let sent = c.args.messages in
    let named : c.in-Err-replayed.failure ≡ e = same_step is in
    fri_failure_is (moves_of g) g.EF.ExtensionField.coefficients described start
    sent.commitments.now sent.commit_witnesses.now sent.final_poly.now sent.query_witness
    c.replay_steps-replayed.new.transcript.challenger.now _ c.in-Err-replayed.failure e
    (rw (begun.ensures.starts.shape, seeded) at c.in-Err-replayed.ensures.failure) named
    (search rules)

pub returns-in-Err-replayed-clause-absorbed : goal.returns-in-Err-replayed-clause-absorbed
returns-in-Err-replayed-clause-absorbed g c = λ started.
    let seeded =
    c.start-transcript.ensures.starts.state
    ∙ ap (λ bytes. bytes_observed g.F.Field.ops g.C.CanObserve-1.observed c.args.challenger.now bytes)
    c.in-Ok.ensures.stream in
    let reached = rw seeded at c.in-Err-replayed.ensures.reached in
    reaches_same (moves_of g) _ _ _ reached (search rules)

-- where nothing is answered nothing is said of the answer
pub returns-in-Err-replayed-clause-betas : goal.returns-in-Err-replayed-clause-betas
returns-in-Err-replayed-clause-betas g c = tt

pub returns-in-Err-replayed-clause-indices : goal.returns-in-Err-replayed-clause-indices
returns-in-Err-replayed-clause-indices g c = tt

pub returns-in-Err-replayed-clause-replay : goal.returns-in-Err-replayed-clause-replay
returns-in-Err-replayed-clause-replay g c = tt

pub returns-in-Ok-replayed-clause-unchanged : goal.returns-in-Ok-replayed-clause-unchanged
returns-in-Ok-replayed-clause-unchanged g c = λ same. no_refusal same

pub returns-in-Err-replayed-clause-unchanged : goal.returns-in-Err-replayed-clause-unchanged
returns-in-Err-replayed-clause-unchanged g c = λ same. no_seed same
