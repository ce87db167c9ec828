use Rattle.std.proofs.Common.{◌≡◌, Some, None, [], unwrap_or, refl, sym, ap, ◌∙◌}
use Rattle.p3_challenger_core.specs.Run.{Moves, moves}
use Rattle.p3_fri_pow.proofs.Reached.{reaches_itself}
use Rattle.p3_fri_transcript.specs.Shapes.{fri_shape}
use Rattle.p3_fri_pcs_transcript.specs.Counts.{all_values}
use Rattle.p3_fri_pcs_transcript.specs.Replay.{BatchReplay, shown_batch_replay}
use Rattle.p3_fri_pcs_transcript.specs.Shapes.{pcs_shape}
use Rattle.p3_fri_pcs_transcript.proofs.PcsReplays.{batch_lent, pcs_joined}
use Rattle.p3_fri_pcs_transcript.proofs.PcsRuns.{claimed_is, batch_found, pcs_found, batch_refused, test_refused}
use Rattle.p3_fri_pcs_transcript.proofs.StepRuns.{reaches_claimed, reaches_inside}
use Rattle.p3_fri_pcs_transcript.proofs.pcs_transcript.steps.play_steps.Given.{Over}
use Rattle.p3_fri_pcs_transcript.proofs.pcs_transcript.steps.play_steps.Goals as goal

abbrev moves_of : (g : Over) → Moves g.row.C.Denot g.row.F.Denot g.row.EF.Denot g.row.Com.Denot
moves_of g =
    moves g.C.CanObserve-1.observed g.C.CanObserve-2.observed g.C.CanSample.sampled
    g.EF.ExtensionField.of_coefficients g.EF.ExtensionField.DIMENSION g.C.CanSampleBits.sampled_bits

pub play_test-requires-clause-widths : goal.play_test-requires-clause-widths
play_test-requires-clause-widths g c = rw (c.in-Ok.ensures.kept.shape, c.claimed_openings.ensures.kept.shape) c.requires.widths

pub returns-in-Ok-play_test-clause-replay : goal.returns-in-Ok-play_test-clause-replay
returns-in-Ok-play_test-clause-replay g c = λ before seeded.
    let ops = g.F.Field.ops in
    let shape = pcs_shape c.args.transcript.now.shape in
    let observed = c.claimed_openings.new.self.challenger.now in
    let inside = c.batch_phase.new.self.challenger.now in
    let played = c.in-Ok-play_test.test in
    let found : c.unwrap_or.result ≡ unwrap_or c.in-Ok.drawn.1 ops.zero =
    c.unwrap_or.ensures
    ∙ ap (unwrap_or c.in-Ok.drawn.1) (c.ZERO.ensures ∙ g.met.F.Field.zero_law) in
    pcs_joined (moves_of g) g.EF.ExtensionField.coefficients ops g.EF.ExtensionField.DIMENSION shape (fri_shape c.args.test) before (all_values c.args.opened_values.now.items)
    (Some c.unwrap_or.result) c.args.commitments.now played.commit_witnesses.items c.args.final_poly.now (Some played.query_witness)
    c.args.transcript.now.challenger.now observed inside inside c.play_test.new.transcript.challenger.now _ _ _ seeded c.claimed_openings.ensures.state
    (ap (λ w. shown_batch_replay (moves_of g) shape.batch_pow_bits observed (Some w)) found ∙ rw c.claimed_openings.ensures.kept.shape at c.in-Ok.ensures.batch)
    refl c.in-Ok-play_test.ensures.replay

pub returns-in-Ok-play_test-clause-found : goal.returns-in-Ok-play_test-clause-found
returns-in-Ok-play_test-clause-found g c = λ before seeded.
    let ops = g.F.Field.ops in
    let shape = pcs_shape c.args.transcript.now.shape in
    let values = all_values c.args.opened_values.now.items in
    let started = c.args.transcript.now.challenger.now in
    let observed = c.claimed_openings.new.self.challenger.now in
    let inside = c.batch_phase.new.self.challenger.now in
    let played = c.in-Ok-play_test.test in
    let found : c.unwrap_or.result ≡ unwrap_or c.in-Ok.drawn.1 ops.zero =
    c.unwrap_or.ensures
    ∙ ap (unwrap_or c.in-Ok.drawn.1) (c.ZERO.ensures ∙ g.met.F.Field.zero_law) in
    let is = claimed_is (moves_of g) g.EF.ExtensionField.coefficients ops g.EF.ExtensionField.DIMENSION shape (fri_shape c.args.test) before values started observed seeded c.claimed_openings.ensures.state in
    let batch = batch_lent (moves_of g) g.EF.ExtensionField.coefficients ops g.EF.ExtensionField.DIMENSION shape (fri_shape c.args.test) before values (Some c.unwrap_or.result) c.args.commitments.now [] c.args.final_poly.now None
    started observed inside inside _ seeded c.claimed_openings.ensures.state
    (ap (λ w. shown_batch_replay (moves_of g) shape.batch_pow_bits observed (Some w)) found ∙ rw c.claimed_openings.ensures.kept.shape at c.in-Ok.ensures.batch)
    refl in
    pcs_found (moves_of g) g.EF.ExtensionField.coefficients ops g.EF.ExtensionField.DIMENSION shape (fri_shape c.args.test) before values _ c.unwrap_or.result c.args.commitments.now played.commit_witnesses.items
    c.args.final_poly.now played.query_witness observed inside c.in-Ok.drawn.1 is
    (rw c.claimed_openings.ensures.kept.shape at c.in-Ok.ensures.witness) (rw c.claimed_openings.ensures.kept.shape at c.in-Ok.ensures.found) found
    (ap (λ (r : BatchReplay _ _). r.state) batch) c.in-Ok-play_test.ensures.found

pub returns-in-Ok-play_test-clause-reached : goal.returns-in-Ok-play_test-clause-reached
returns-in-Ok-play_test-clause-reached g c =
    reaches_inside (moves_of g) g.EF.ExtensionField.coefficients (all_values c.args.opened_values.now.items) c.args.transcript.now.challenger.now c.claimed_openings.new.self.challenger.now
    (pcs_shape c.claimed_openings.new.self.shape).batch_pow_bits c.batch_phase.new.self.challenger.now _ _ (Some (unwrap_or c.in-Ok.drawn.1 g.F.Field.ops.zero))
    c.claimed_openings.ensures.state c.in-Ok.ensures.batch c.in-Ok-play_test.ensures.reached

pub returns-in-Err-clause-refused : goal.returns-in-Err-clause-refused
returns-in-Err-clause-refused g c = λ before seeded.
    let ops = g.F.Field.ops in
    let shape = pcs_shape c.args.transcript.now.shape in
    let values = all_values c.args.opened_values.now.items in
    let observed = c.claimed_openings.new.self.challenger.now in
    let is = claimed_is (moves_of g) g.EF.ExtensionField.coefficients ops g.EF.ExtensionField.DIMENSION shape (fri_shape c.args.test) before values c.args.transcript.now.challenger.now observed seeded c.claimed_openings.ensures.state in
    batch_refused (moves_of g) g.EF.ExtensionField.coefficients ops g.EF.ExtensionField.DIMENSION shape (fri_shape c.args.test) before values g.C.GrindingChallenger.solution c.args.commitments.now c.args.final_poly.now observed c.in-Err.refusal is
    c.in-Err.ensures.refused (rw c.claimed_openings.ensures.kept.shape at c.in-Err.ensures.none_passes)

pub returns-in-Err-clause-reached : goal.returns-in-Err-clause-reached
returns-in-Err-clause-reached g c =
    reaches_claimed (moves_of g) g.EF.ExtensionField.coefficients (all_values c.args.opened_values.now.items) c.args.transcript.now.challenger.now c.claimed_openings.new.self.challenger.now _
    c.claimed_openings.ensures.state (reaches_itself _ _ _ (sym c.in-Err.ensures.unchanged))

pub returns-in-Err-play_test-clause-refused : goal.returns-in-Err-play_test-clause-refused
returns-in-Err-play_test-clause-refused g c = λ before seeded.
    let ops = g.F.Field.ops in
    let shape = pcs_shape c.args.transcript.now.shape in
    let values = all_values c.args.opened_values.now.items in
    let inside = c.batch_phase.new.self.challenger.now in
    let sent = unwrap_or c.in-Ok.drawn.1 ops.zero in
    let batch = batch_lent (moves_of g) g.EF.ExtensionField.coefficients ops g.EF.ExtensionField.DIMENSION shape (fri_shape c.args.test) before values (Some sent) c.args.commitments.now [] c.args.final_poly.now None
    c.args.transcript.now.challenger.now c.claimed_openings.new.self.challenger.now inside inside _ seeded c.claimed_openings.ensures.state
    (rw c.claimed_openings.ensures.kept.shape at c.in-Ok.ensures.batch) refl in
    let is = claimed_is (moves_of g) g.EF.ExtensionField.coefficients ops g.EF.ExtensionField.DIMENSION shape (fri_shape c.args.test) before values c.args.transcript.now.challenger.now c.claimed_openings.new.self.challenger.now seeded c.claimed_openings.ensures.state in
    test_refused (moves_of g) g.EF.ExtensionField.coefficients ops g.EF.ExtensionField.DIMENSION shape (fri_shape c.args.test) before values g.C.GrindingChallenger.solution c.args.commitments.now c.args.final_poly.now c.in-Err-play_test.refusal sent inside
    (batch_found (moves_of g) g.EF.ExtensionField.coefficients ops g.EF.ExtensionField.DIMENSION shape (fri_shape c.args.test) before values g.C.GrindingChallenger.solution sent c.claimed_openings.new.self.challenger.now c.in-Ok.drawn.1 is
    (rw c.claimed_openings.ensures.kept.shape at c.in-Ok.ensures.witness) (rw c.claimed_openings.ensures.kept.shape at c.in-Ok.ensures.found) refl)
    (ap (λ (r : BatchReplay _ _). r.passes) batch) (ap (λ (r : BatchReplay _ _). r.state) batch) c.in-Err-play_test.ensures.refused

pub returns-in-Err-play_test-clause-reached : goal.returns-in-Err-play_test-clause-reached
returns-in-Err-play_test-clause-reached g c =
    reaches_inside (moves_of g) g.EF.ExtensionField.coefficients (all_values c.args.opened_values.now.items) c.args.transcript.now.challenger.now c.claimed_openings.new.self.challenger.now
    (pcs_shape c.claimed_openings.new.self.shape).batch_pow_bits c.batch_phase.new.self.challenger.now _ _ (Some (unwrap_or c.in-Ok.drawn.1 g.F.Field.ops.zero))
    c.claimed_openings.ensures.state c.in-Ok.ensures.batch c.in-Err-play_test.ensures.reached
