use Rattle.std.proofs.Common.{◌≡◌, Err, refl, sym, ap, ◌∙◌, rules}
use Rattle.p3_challenger_core.specs.Run.{Moves, moves}
use Rattle.p3_challenger_fs.specs.Turns.{bytes_observed}
use Rattle.p3_fri_pow.proofs.Reached.{reaches_same}
use Rattle.p3_fri_transcript.specs.declared.transcript.failure.TranscriptFailure.TheVariants.{OutOfMemory}
use Rattle.p3_fri_transcript.specs.declared.transcript.play.Refusal.TheVariants.{Step}
use Rattle.p3_fri_transcript.specs.Shapes.{fri_shape}
use Rattle.p3_fri_pcs_transcript.specs.declared.pcs_transcript.play.PcsFailure.TheVariants.{Fri}
use Rattle.p3_fri_pcs_transcript.specs.Counts.{all_claimed}
use Rattle.p3_fri_pcs_transcript.specs.Shapes.{pcs_shape}
use Rattle.p3_fri_pcs_transcript.specs.Steps.{PcsNumbers}
use Rattle.p3_fri_pcs_transcript.proofs.ClaimTurns.{all_claims_left}
use Rattle.p3_fri_pcs_transcript.proofs.PcsReplays.{pcs_ends}
use Rattle.p3_fri_pcs_transcript.proofs.PcsRuns.{ok_not_err, step_not_seed, no_answer, same_refusal, same_step, run_failed}
use Rattle.p3_fri_pcs_transcript.proofs.StepRuns.{seeded_by}
use Rattle.p3_fri_pcs_transcript.proofs.pcs_transcript.play.replay_pcs.Given.{Over}
use Rattle.p3_fri_pcs_transcript.proofs.pcs_transcript.play.replay_pcs.Goals as goal

abbrev moves_of : (g : Over) → Moves g.row.C.Denot g.row.F.Denot g.row.EF.Denot g.row.Com.Denot
moves_of g =
    moves g.C.CanObserve-1.observed g.C.CanObserve-2.observed g.C.CanSample.sampled
    g.EF.ExtensionField.of_coefficients g.EF.ExtensionField.DIMENSION g.C.CanSampleBits.sampled_bits

pub replay_steps-replayed-requires-clause-no_step_played : goal.replay_steps-replayed-requires-clause-no_step_played
replay_steps-replayed-requires-clause-no_step_played g c =
    all_claims_left g.EF.ExtensionField.DIMENSION (pcs_shape c.args.shape) (pcs_shape c.start-transcript.result.shape) _
    c.start-transcript.ensures.starts.shape (c.start-transcript.ensures.steps ∙ c.in-Ok.ensures.turns)

pub replay_steps-replayed-requires-clause-described : goal.replay_steps-replayed-requires-clause-described
replay_steps-replayed-requires-clause-described g c =
    c.requires.described ∙ ap (λ (s : PcsNumbers). s.counts) (sym c.start-transcript.ensures.starts.shape)

pub replay_steps-replayed-requires-clause-widths : goal.replay_steps-replayed-requires-clause-widths
replay_steps-replayed-requires-clause-widths g c = rw c.start-transcript.ensures.starts.shape c.requires.widths

pub returns-in-Ok-replayed-clause-replay : goal.returns-in-Ok-replayed-clause-replay
returns-in-Ok-replayed-clause-replay g c =
    let begun = c.start-transcript in
    let seeded =
    seeded_by g.F.Field.ops g.C.CanObserve-1.observed g.EF.ExtensionField.DIMENSION c.args.challenger.now begun.result.challenger.now (pcs_shape c.args.shape) (pcs_shape begun.result.shape) _
    begun.ensures.starts.state c.in-Ok.ensures.stream begun.ensures.starts.shape in
    pcs_ends _ _ _ _ _ _ (rw begun.ensures.starts.shape at (c.in-Ok-replayed.ensures.replay c.args.challenger.now seeded)) (search rules)

pub returns-in-Ok-replayed-clause-passes : goal.returns-in-Ok-replayed-clause-passes
returns-in-Ok-replayed-clause-passes g c = λ started remembered.
    let begun = c.start-transcript in
    let seeded =
    seeded_by g.F.Field.ops g.C.CanObserve-1.observed g.EF.ExtensionField.DIMENSION c.args.challenger.now begun.result.challenger.now (pcs_shape c.args.shape) (pcs_shape begun.result.shape) _
    begun.ensures.starts.state c.in-Ok.ensures.stream begun.ensures.starts.shape in
    let exact = rw begun.ensures.starts.shape at
    (c.in-Ok-replayed.ensures.passes c.args.challenger.now seeded (λ same. ok_not_err same)) in
    ((λ ok. exact.0 refl), λ held. refl)

pub returns-in-Ok-replayed-clause-absorbed : goal.returns-in-Ok-replayed-clause-absorbed
returns-in-Ok-replayed-clause-absorbed g c = λ absorbed.
    let begun = c.start-transcript in
    let seeded =
    begun.ensures.starts.state ∙ ap (λ bytes. bytes_observed g.F.Field.ops g.C.CanObserve-1.observed c.args.challenger.now bytes) c.in-Ok.ensures.stream in
    let reached = rw seeded at c.in-Ok-replayed.ensures.reached in
    reaches_same _ _ _ _ reached (search rules)

pub returns-in-Err-replayed-clause-passes : goal.returns-in-Err-replayed-clause-passes
returns-in-Err-replayed-clause-passes g c = λ started remembered.
    let begun = c.start-transcript in
    let seeded =
    seeded_by g.F.Field.ops g.C.CanObserve-1.observed g.EF.ExtensionField.DIMENSION c.args.challenger.now begun.result.challenger.now (pcs_shape c.args.shape) (pcs_shape begun.result.shape) _
    begun.ensures.starts.state c.in-Ok.ensures.stream begun.ensures.starts.shape in
    let exact = rw begun.ensures.starts.shape at (c.in-Err-replayed.ensures.passes c.args.challenger.now seeded
    (λ same. let is : c.in-Err-replayed.failure ≡ Fri OutOfMemory = same_refusal same in
    remembered (ap (λ f. Err (Step f)) is))) in
    ((λ ok. no_answer ok), λ held. exact.1 held)

pub returns-in-Err-replayed-clause-failure : goal.returns-in-Err-replayed-clause-failure
returns-in-Err-replayed-clause-failure g c = λ error is_error.
    let begun = c.start-transcript in
    let seeded =
    seeded_by g.F.Field.ops g.C.CanObserve-1.observed g.EF.ExtensionField.DIMENSION c.args.challenger.now begun.result.challenger.now (pcs_shape c.args.shape) (pcs_shape begun.result.shape) _
    begun.ensures.starts.state c.in-Ok.ensures.stream begun.ensures.starts.shape in
    let sent = c.args.messages in
    let same : c.in-Err-replayed.failure ≡ error = same_step is_error in
    run_failed (moves_of g) g.EF.ExtensionField.coefficients g.F.Field.ops g.EF.ExtensionField.DIMENSION (pcs_shape c.args.shape) (fri_shape c.args.test) c.args.challenger.now (all_claimed c.args.claims.now)
    c.args.batch_witness sent.commitments.now sent.commit_witnesses.now sent.final_poly.now sent.query_witness
    c.in-Err-replayed.failure error c.replay_steps-replayed.new.transcript.challenger.now _ same (search rules)
    (rw begun.ensures.starts.shape at (c.in-Err-replayed.ensures.failure c.args.challenger.now seeded))

pub returns-in-Err-replayed-clause-absorbed : goal.returns-in-Err-replayed-clause-absorbed
returns-in-Err-replayed-clause-absorbed g c = λ absorbed.
    let begun = c.start-transcript in
    let seeded =
    begun.ensures.starts.state ∙ ap (λ bytes. bytes_observed g.F.Field.ops g.C.CanObserve-1.observed c.args.challenger.now bytes) c.in-Ok.ensures.stream in
    let reached = rw seeded at c.in-Err-replayed.ensures.reached in
    reaches_same _ _ _ _ reached (search rules)

pub returns-in-Ok-replayed-clause-unchanged : goal.returns-in-Ok-replayed-clause-unchanged
returns-in-Ok-replayed-clause-unchanged g c = λ is. ok_not_err is

pub returns-in-Ok-replayed-clause-failure : goal.returns-in-Ok-replayed-clause-failure
returns-in-Ok-replayed-clause-failure g c = λ _ is. ok_not_err is

pub returns-in-Err-replayed-clause-unchanged : goal.returns-in-Err-replayed-clause-unchanged
returns-in-Err-replayed-clause-unchanged g c = λ is. step_not_seed is

-- where nothing is answered nothing is said of the answer
pub returns-in-Err-replayed-clause-betas : goal.returns-in-Err-replayed-clause-betas
returns-in-Err-replayed-clause-betas g c = tt

pub returns-in-Err-replayed-clause-indices : goal.returns-in-Err-replayed-clause-indices
returns-in-Err-replayed-clause-indices g c = tt

pub returns-in-Err-replayed-clause-replay : goal.returns-in-Err-replayed-clause-replay
returns-in-Err-replayed-clause-replay g c = tt
