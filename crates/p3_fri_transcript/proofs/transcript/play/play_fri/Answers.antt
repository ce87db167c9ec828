use Rattle.std.proofs.Common.{◌≡◌, Some, sym, ap, ◌∙◌, rules, subst}
use Rattle.p3_challenger_core.specs.Run.{Moves, moves}
use Rattle.p3_challenger_fs.specs.Turns.{bytes_observed}
use Rattle.p3_fri_folding.specs.declared.error.FriProverError.{FriProverError}
use Rattle.p3_fri_pow.proofs.Reached.{reaches_same}
use Rattle.p3_fri_transcript.specs.Found.{PlayRefused}
use Rattle.p3_fri_transcript.specs.Shapes.{fri_shape}
use Rattle.p3_fri_transcript.specs.Steps.{FriNumbers, fri_stream}
use Rattle.p3_fri_transcript.proofs.Joining.{replay_absorbed}
use Rattle.p3_fri_transcript.proofs.Outcomes.{no_refusal, no_seed, same_step}
use Rattle.p3_fri_transcript.proofs.Replays.{fri_ends}
use Rattle.p3_fri_transcript.proofs.TurnLists.{these_rounds_left}
use Rattle.p3_fri_transcript.proofs.transcript.play.play_fri.Given.{Over}
use Rattle.p3_fri_transcript.proofs.transcript.play.play_fri.Goals as goal

abbrev moves_of : (g : Over) → Moves g.row.C.Denot g.row.F.Denot g.row.EF.Denot g.row.Com.Denot
moves_of g =
    moves g.C.CanObserve-1.observed g.C.CanObserve-2.observed g.C.CanSample.sampled
    g.EF.ExtensionField.of_coefficients g.EF.ExtensionField.DIMENSION
    g.C.CanSampleBits.sampled_bits

pub play_steps-played-requires-clause-rounds_left : goal.play_steps-played-requires-clause-rounds_left
play_steps-played-requires-clause-rounds_left g c =
    these_rounds_left g.EF.ExtensionField.DIMENSION (fri_shape c.args.shape) _ _ _
    c.start-transcript.ensures.starts.shape c.requires.rounds
    (c.start-transcript.ensures.steps ∙ c.in-Ok.ensures.turns)

pub play_steps-played-requires-clause-final_poly : goal.play_steps-played-requires-clause-final_poly
play_steps-played-requires-clause-final_poly g c =
    c.requires.final_poly
    ∙ ap (λ (s : FriNumbers). s.final_poly_len) (sym c.start-transcript.ensures.starts.shape)

pub returns-in-Ok-played-clause-replay : goal.returns-in-Ok-played-clause-replay
returns-in-Ok-played-clause-replay g c =
    let described = fri_shape c.args.shape in
    let begun = c.start-transcript in
    let seeded =
    begun.ensures.starts.state
    ∙ ap (λ bytes. bytes_observed g.F.Field.ops g.C.CanObserve-1.observed c.args.challenger.now bytes)
    c.in-Ok.ensures.stream in
    let played = c.in-Ok-played.played in
    let whole =
    replay_absorbed (moves_of g) g.EF.ExtensionField.coefficients described g.F.Field.ops
    (fri_stream g.EF.ExtensionField.DIMENSION described) c.args.challenger.now
    begun.result.challenger.now seeded c.args.commitments.now played.commit_witnesses.items
    c.args.final_poly.now (Some played.query_witness)
    ∙ rw begun.ensures.starts.shape at c.in-Ok-played.ensures.replay in
    fri_ends _ _ _ _ _ whole (search rules)

pub returns-in-Ok-played-clause-indices : goal.returns-in-Ok-played-clause-indices
returns-in-Ok-played-clause-indices g c =
    rw c.start-transcript.ensures.starts.shape at c.in-Ok-played.ensures.indices

pub returns-in-Ok-played-clause-found : goal.returns-in-Ok-played-clause-found
returns-in-Ok-played-clause-found g c =
    let begun = c.start-transcript in
    let seeded =
    begun.ensures.starts.state
    ∙ ap (λ bytes. bytes_observed g.F.Field.ops g.C.CanObserve-1.observed c.args.challenger.now bytes)
    c.in-Ok.ensures.stream in
    rw (begun.ensures.starts.shape, seeded) at c.in-Ok-played.ensures.found

pub returns-in-Ok-played-clause-absorbed : goal.returns-in-Ok-played-clause-absorbed
returns-in-Ok-played-clause-absorbed g c = λ started.
    let seeded =
    c.start-transcript.ensures.starts.state
    ∙ ap (λ bytes. bytes_observed g.F.Field.ops g.C.CanObserve-1.observed c.args.challenger.now bytes)
    c.in-Ok.ensures.stream in
    let reached = rw seeded at c.in-Ok-played.ensures.reached in
    reaches_same (moves_of g) _ _ _ reached (search rules)

pub returns-in-Err-played-clause-refused : goal.returns-in-Err-played-clause-refused
returns-in-Err-played-clause-refused g c = λ e is.
    let described = fri_shape c.args.shape in
    let begun = c.start-transcript in
    let seeded =
    begun.ensures.starts.state
    ∙ ap (λ bytes. bytes_observed g.F.Field.ops g.C.CanObserve-1.observed c.args.challenger.now bytes)
    c.in-Ok.ensures.stream in
    let start =
    bytes_observed g.F.Field.ops g.C.CanObserve-1.observed c.args.challenger.now
    (fri_stream g.EF.ExtensionField.DIMENSION described) in
    let named : c.in-Err-played.refusal ≡ e = same_step is in
    let P : FriProverError → Type 0 =
    λ x. PlayRefused (moves_of g) g.F.Field.ops.zero g.C.GrindingChallenger.solution
    g.EF.ExtensionField.coefficients described start c.args.commitments.now c.args.final_poly.now x in
    subst P named (rw (begun.ensures.starts.shape, seeded) at c.in-Err-played.ensures.refused)

pub returns-in-Err-played-clause-absorbed : goal.returns-in-Err-played-clause-absorbed
returns-in-Err-played-clause-absorbed g c = λ started.
    let seeded =
    c.start-transcript.ensures.starts.state
    ∙ ap (λ bytes. bytes_observed g.F.Field.ops g.C.CanObserve-1.observed c.args.challenger.now bytes)
    c.in-Ok.ensures.stream in
    let reached = rw seeded at c.in-Err-played.ensures.reached in
    reaches_same (moves_of g) _ _ _ reached (search rules)

-- where nothing is answered nothing is said of the answer
pub returns-in-Ok-played-clause-unchanged : goal.returns-in-Ok-played-clause-unchanged
returns-in-Ok-played-clause-unchanged g c = λ same. no_refusal same

pub returns-in-Err-played-clause-unchanged : goal.returns-in-Err-played-clause-unchanged
returns-in-Err-played-clause-unchanged g c = λ same. no_seed same

pub returns-in-Ok-played-clause-refused : goal.returns-in-Ok-played-clause-refused
returns-in-Ok-played-clause-refused g c = λ e same. no_refusal same
