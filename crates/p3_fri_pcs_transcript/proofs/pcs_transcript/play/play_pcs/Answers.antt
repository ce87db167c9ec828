use Rattle.std.proofs.Common.{◌≡◌, sym, ap, ◌∙◌, rules, subst}
use Rattle.p3_challenger_core.specs.Run.{Moves, moves}
use Rattle.p3_challenger_fs.specs.Turns.{bytes_observed}
use Rattle.p3_fri_pow.proofs.Reached.{reaches_same}
use Rattle.p3_fri_transcript.specs.Shapes.{fri_shape}
use Rattle.p3_fri_pcs_transcript.specs.Counts.{all_values}
use Rattle.p3_fri_pcs_transcript.specs.Found.{PcsPlayRefused}
use Rattle.p3_fri_pcs_transcript.specs.Shapes.{pcs_shape}
use Rattle.p3_fri_pcs_transcript.specs.Steps.{PcsNumbers}
use Rattle.p3_fri_pcs_transcript.proofs.ClaimTurns.{all_claims_left}
use Rattle.p3_fri_pcs_transcript.proofs.PcsReplays.{pcs_ends}
use Rattle.p3_fri_pcs_transcript.proofs.PcsRuns.{ok_not_err, step_not_seed, same_step}
use Rattle.p3_fri_pcs_transcript.proofs.StepRuns.{seeded_by}
use Rattle.p3_fri_pcs_transcript.proofs.pcs_transcript.play.play_pcs.Given.{Over}
use Rattle.p3_fri_pcs_transcript.proofs.pcs_transcript.play.play_pcs.Goals as goal

abbrev moves_of : (g : Over) → Moves g.row.C.Denot g.row.F.Denot g.row.EF.Denot g.row.Com.Denot
moves_of g =
    moves g.C.CanObserve-1.observed g.C.CanObserve-2.observed g.C.CanSample.sampled
    g.EF.ExtensionField.of_coefficients g.EF.ExtensionField.DIMENSION g.C.CanSampleBits.sampled_bits

pub play_steps-played-requires-clause-no_step_played : goal.play_steps-played-requires-clause-no_step_played
play_steps-played-requires-clause-no_step_played g c =
    all_claims_left g.EF.ExtensionField.DIMENSION (pcs_shape c.args.shape) (pcs_shape c.start-transcript.result.shape) _
    c.start-transcript.ensures.starts.shape (c.start-transcript.ensures.steps ∙ c.in-Ok.ensures.turns)

pub play_steps-played-requires-clause-described : goal.play_steps-played-requires-clause-described
play_steps-played-requires-clause-described g c =
    c.requires.described ∙ ap (λ (s : PcsNumbers). s.counts) (sym c.start-transcript.ensures.starts.shape)

pub play_steps-played-requires-clause-widths : goal.play_steps-played-requires-clause-widths
play_steps-played-requires-clause-widths g c = rw c.start-transcript.ensures.starts.shape c.requires.widths

pub returns-in-Ok-played-clause-replay : goal.returns-in-Ok-played-clause-replay
returns-in-Ok-played-clause-replay g c =
    let begun = c.start-transcript in
    let seeded =
    seeded_by g.F.Field.ops g.C.CanObserve-1.observed g.EF.ExtensionField.DIMENSION c.args.challenger.now begun.result.challenger.now (pcs_shape c.args.shape) (pcs_shape begun.result.shape) _
    begun.ensures.starts.state c.in-Ok.ensures.stream begun.ensures.starts.shape in
    pcs_ends _ _ _ _ _ _ (rw begun.ensures.starts.shape at (c.in-Ok-played.ensures.replay c.args.challenger.now seeded)) (search rules)

pub returns-in-Ok-played-clause-found : goal.returns-in-Ok-played-clause-found
returns-in-Ok-played-clause-found g c =
    let begun = c.start-transcript in
    let seeded =
    seeded_by g.F.Field.ops g.C.CanObserve-1.observed g.EF.ExtensionField.DIMENSION c.args.challenger.now begun.result.challenger.now (pcs_shape c.args.shape) (pcs_shape begun.result.shape) _
    begun.ensures.starts.state c.in-Ok.ensures.stream begun.ensures.starts.shape in
    rw begun.ensures.starts.shape at (c.in-Ok-played.ensures.found c.args.challenger.now seeded)

pub returns-in-Ok-played-clause-absorbed : goal.returns-in-Ok-played-clause-absorbed
returns-in-Ok-played-clause-absorbed g c = λ absorbed.
    let begun = c.start-transcript in
    let seeded =
    begun.ensures.starts.state ∙ ap (λ bytes. bytes_observed g.F.Field.ops g.C.CanObserve-1.observed c.args.challenger.now bytes) c.in-Ok.ensures.stream in
    let reached = rw seeded at c.in-Ok-played.ensures.reached in
    reaches_same _ _ _ _ reached (search rules)

pub returns-in-Err-played-clause-refused : goal.returns-in-Err-played-clause-refused
returns-in-Err-played-clause-refused g c = λ error is_error.
    let begun = c.start-transcript in
    let seeded =
    seeded_by g.F.Field.ops g.C.CanObserve-1.observed g.EF.ExtensionField.DIMENSION c.args.challenger.now begun.result.challenger.now (pcs_shape c.args.shape) (pcs_shape begun.result.shape) _
    begun.ensures.starts.state c.in-Ok.ensures.stream begun.ensures.starts.shape in
    let same : c.in-Err-played.refusal ≡ error = same_step is_error in
    subst (λ e. PcsPlayRefused (moves_of g) g.EF.ExtensionField.coefficients g.F.Field.ops g.EF.ExtensionField.DIMENSION (pcs_shape c.args.shape) (fri_shape c.args.test) c.args.challenger.now
    (all_values c.args.opened_values.now.items) g.C.GrindingChallenger.solution c.args.commitments.now c.args.final_poly.now e) same
    (rw begun.ensures.starts.shape at (c.in-Err-played.ensures.refused c.args.challenger.now seeded))

pub returns-in-Err-played-clause-absorbed : goal.returns-in-Err-played-clause-absorbed
returns-in-Err-played-clause-absorbed g c = λ absorbed.
    let begun = c.start-transcript in
    let seeded =
    begun.ensures.starts.state ∙ ap (λ bytes. bytes_observed g.F.Field.ops g.C.CanObserve-1.observed c.args.challenger.now bytes) c.in-Ok.ensures.stream in
    let reached = rw seeded at c.in-Err-played.ensures.reached in
    reaches_same _ _ _ _ reached (search rules)

pub returns-in-Ok-played-clause-refused : goal.returns-in-Ok-played-clause-refused
returns-in-Ok-played-clause-refused g c = λ _ is. ok_not_err is

pub returns-in-Ok-played-clause-unchanged : goal.returns-in-Ok-played-clause-unchanged
returns-in-Ok-played-clause-unchanged g c = λ is. ok_not_err is

pub returns-in-Err-played-clause-unchanged : goal.returns-in-Err-played-clause-unchanged
returns-in-Err-played-clause-unchanged g c = λ is. step_not_seed is

-- where nothing is answered nothing is said of the answer
pub returns-in-Err-played-clause-betas : goal.returns-in-Err-played-clause-betas
returns-in-Err-played-clause-betas g c = tt

pub returns-in-Err-played-clause-found : goal.returns-in-Err-played-clause-found
returns-in-Err-played-clause-found g c = tt

pub returns-in-Err-played-clause-indices : goal.returns-in-Err-played-clause-indices
returns-in-Err-played-clause-indices g c = tt

pub returns-in-Err-played-clause-replay : goal.returns-in-Err-played-clause-replay
returns-in-Err-played-clause-replay g c = tt

pub returns-in-Err-played-clause-witnesses : goal.returns-in-Err-played-clause-witnesses
returns-in-Err-played-clause-witnesses g c = tt
