use Rattle.std.proofs.Common.{◌≡◌, [], Some, Err, unwrap_or, refl, ap, ◌∙◌, rules}
use Rattle.p3_challenger_core.specs.Run.{Moves, moves}
use Rattle.p3_fri_pow.proofs.Reached.{reaches_join, reaches_by_values}
use Rattle.p3_fri_transcript.specs.Replay.{shown_queries_replay}
use Rattle.p3_fri_transcript.specs.Shapes.{fri_shape}
use Rattle.p3_fri_transcript.proofs.Joining.{queries_joined}
use Rattle.p3_fri_transcript.proofs.Refusals.{rounds_refused, query_refused, fri_found}
use Rattle.p3_fri_transcript.proofs.Replays.{queries_any}
use Rattle.p3_fri_transcript.proofs.transcript.steps.play_steps.Given.{Over}
use Rattle.p3_fri_transcript.proofs.transcript.steps.play_steps.Goals as goal

abbrev moves_of : (g : Over) → Moves g.row.C.Denot g.row.F.Denot g.row.EF.Denot g.row.Com.Denot
moves_of g =
    moves g.C.CanObserve-1.observed g.C.CanObserve-2.observed g.C.CanSample.sampled
    g.EF.ExtensionField.of_coefficients g.EF.ExtensionField.DIMENSION
    g.C.CanSampleBits.sampled_bits

pub returns-in-Err-clause-refused : goal.returns-in-Err-clause-refused
returns-in-Err-clause-refused g c =
    let start = c.args.transcript.now.challenger.now in
    rounds_refused (moves_of g) g.F.Field.ops.zero g.C.GrindingChallenger.solution
    g.EF.ExtensionField.coefficients (fri_shape c.args.transcript.now.shape) start start
    c.args.commitments.now c.args.final_poly.now _ c.in-Err.ensures.refused

pub returns-in-Err-query_phase-clause-refused : goal.returns-in-Err-query_phase-clause-refused
returns-in-Err-query_phase-clause-refused g c =
    let played = c.in-Ok.rounds in
    query_refused (moves_of g) g.F.Field.ops.zero g.C.GrindingChallenger.solution
    g.EF.ExtensionField.coefficients (fri_shape c.args.transcript.now.shape)
    c.args.transcript.now.challenger.now c.play_rounds.new.transcript.challenger.now
    c.args.commitments.now c.args.final_poly.now played.commit_witnesses.items played.betas.items
    c.in-Ok.ensures.rounds c.in-Ok.ensures.found _ c.in-Ok.ensures.witnesses
    c.in-Err-query_phase.ensures.refused
    (λ same. (rw c.in-Ok.ensures.kept.shape at c.in-Err-query_phase.ensures.none_passes)
    (ap Err same))

pub returns-in-Err-query_phase-clause-reached : goal.returns-in-Err-query_phase-clause-reached
returns-in-Err-query_phase-clause-reached g c =
    reaches_join (moves_of g) _ _ _ c.in-Ok.ensures.reached
    (reaches_by_values g.C.CanObserve-1.observed g.C.CanObserve-2.observed g.C.CanSample.sampled
    g.EF.ExtensionField.of_coefficients g.EF.ExtensionField.DIMENSION
    g.C.CanSampleBits.sampled_bits _ _ c.in-Err-query_phase.ensures.reached)

pub returns-clause-replay : goal.returns-clause-replay
returns-clause-replay g c =
    let described = fri_shape c.args.transcript.now.shape in
    let played = c.in-Ok.rounds in
    let coefficients = g.EF.ExtensionField.coefficients in
    let start = c.args.transcript.now.challenger.now in
    let after = c.play_rounds.new.transcript.challenger.now in
    let drawn = c.in-Ok-query_phase.drawn in
    let poly = c.args.final_poly.now in
    let zero = g.F.Field.ops.zero in
    let queries = rw c.in-Ok.ensures.kept.shape at c.in-Ok-query_phase.ensures.queries in
    let found : c.unwrap_or.result ≡ unwrap_or drawn.1 zero = search rules in
    queries_joined (moves_of g) coefficients described g.F.Field.ops [] start start after
    c.query_phase.new.self.challenger.now c.args.commitments.now played.commit_witnesses.items poly
    (Some c.unwrap_or.result) _ _ refl c.in-Ok.ensures.rounds
    (ap (λ w. shown_queries_replay (moves_of g) coefficients described after poly (Some w)) found
    ∙ queries_any g.C.CanObserve-1.observed g.C.CanObserve-2.observed g.C.CanObserve-1.observed
    g.C.CanSample.sampled g.EF.ExtensionField.of_coefficients g.EF.ExtensionField.DIMENSION
    g.C.CanSampleBits.sampled_bits coefficients described after poly
    (Some (unwrap_or drawn.1 zero)) ∙ queries)

pub returns-clause-found : goal.returns-clause-found
returns-clause-found g c =
    let drawn = c.in-Ok-query_phase.drawn in
    let zero = g.F.Field.ops.zero in
    let sent : c.unwrap_or.result ≡ unwrap_or drawn.1 zero = search rules in
    let played = c.in-Ok.rounds in
    fri_found (moves_of g) zero g.C.GrindingChallenger.solution g.EF.ExtensionField.coefficients
    (fri_shape c.args.transcript.now.shape) c.args.transcript.now.challenger.now
    c.play_rounds.new.transcript.challenger.now c.args.commitments.now c.args.final_poly.now
    played.commit_witnesses.items played.betas.items c.in-Ok.ensures.rounds c.in-Ok.ensures.found
    drawn.1 c.unwrap_or.result
    (rw c.in-Ok.ensures.kept.shape at c.in-Ok-query_phase.ensures.witness)
    (rw c.in-Ok.ensures.kept.shape at c.in-Ok-query_phase.ensures.found) sent

pub returns-clause-reached : goal.returns-clause-reached
returns-clause-reached g c =
    reaches_join (moves_of g) _ _ _ c.in-Ok.ensures.reached
    (reaches_by_values g.C.CanObserve-1.observed g.C.CanObserve-2.observed g.C.CanSample.sampled
    g.EF.ExtensionField.of_coefficients g.EF.ExtensionField.DIMENSION
    g.C.CanSampleBits.sampled_bits _ _ c.in-Ok-query_phase.ensures.reached)
