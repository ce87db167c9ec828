use Rattle.std.proofs.Common.{ℕ, sym, ap, subst, length}
use Rattle.p3_challenger.specs.Script.{remaining}
use Rattle.p3_fri_transcript.specs.Shapes.{fri_shape}
use Rattle.p3_fri_transcript.specs.Turns.{RoundsLeft}
use Rattle.p3_fri_transcript.proofs.TurnLists.{other_rounds_left}
use Rattle.p3_fri_core_tests.proofs.transcript.prover.proves.Goals as goal

pub commit_round-round-requires-clause-some_round_left : goal.commit_round-round-requires-clause-some_round_left
commit_round-round-requires-clause-some_round_left g c =
    let d : ℕ = 4 in
    let given = fri_shape c.shape_of-shape.result in
    let own = fri_shape c.expect-transcript.result.shape in
    let left = remaining c.expect-transcript.result.script in
    let rounds = rw c.expect-transcript.ensures at c.new-transcript.ensures.rounds in
    let starts = rw c.expect-transcript.ensures at c.new-transcript.ensures.starts in
    let one : RoundsLeft d given 1 left = subst (λ n. RoundsLeft d given n left) (ap (λ s. length s.log_arities) c.shape_of-shape.ensures) rounds in
    (0, other_rounds_left d own given 1 left (sym starts.shape) one)

pub query_phase-queries-requires-clause-all_rounds_played : goal.query_phase-queries-requires-clause-all_rounds_played
query_phase-queries-requires-clause-all_rounds_played g c =
    let d : ℕ = 4 in
    let given = fri_shape c.shape_of-shape.result in
    let own = fri_shape c.expect-transcript.result.shape in
    let left = remaining c.expect-transcript.result.script in
    let rounds = rw c.expect-transcript.ensures at c.new-transcript.ensures.rounds in
    let starts = rw c.expect-transcript.ensures at c.new-transcript.ensures.starts in
    let steps = rw c.expect-commit_witness.ensures at c.commit_round-round.ensures.steps in
    let one : RoundsLeft d given 1 left = subst (λ n. RoundsLeft d given n left) (ap (λ s. length s.log_arities) c.shape_of-shape.ensures) rounds in
    other_rounds_left d _ own 0 _ (sym c.commit_round-round.ensures.kept.shape) (steps 0 (other_rounds_left d own given 1 left (sym starts.shape) one))
