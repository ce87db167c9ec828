use Rattle.std.proofs.Common.{◌+◌, map, ap, ◌∙◌}
use Rattle.std.proofs.lemmas.List.{take_all}
use Rattle.p3_matrix.specs.Matrix.{rows, matrix_width}
use Rattle.p3_fri_masks.specs.QuotientDraws.{chunks_with_random_columns, past_columns}
use Rattle.p3_fri_masks.proofs.ChunksDrawn.{one_more_chunk}
use Rattle.std.proofs.lemmas.Result.{IfOk-from_err}
use Rattle.p3_fri_masks.proofs.quotient_draws.chunks_with_random_cols.Goals as goal

pub loop-chunk-preserved : goal.loop-chunk-preserved
loop-chunk-preserved g c =
    let made = c.in_ok-with_random_cols in
    one_more_chunk g.F.SampleField.from_word _ _ _ _ _ _ _ _ c.chunk-item.result _ _ _
    c.loop-chunk.invariant c.loop-chunk-test.true c.chunk-item.is made.ensures.rows made.ensures.width
    made.ensures.past c.in_ok-push.ensures.items

-- where nothing is answered nothing is said of the answer
pub returns-in_err-push-clause-past : goal.returns-in_err-push-clause-past
returns-in_err-push-clause-past g c =
    IfOk-from_err c.from_residual-in_err-push.result _ c.from_residual-in_err-push.ensures.0

pub returns-in_err-push-clause-rows : goal.returns-in_err-push-clause-rows
returns-in_err-push-clause-rows g c =
    IfOk-from_err c.from_residual-in_err-push.result _ c.from_residual-in_err-push.ensures.0

pub returns-in_err-push-clause-widths : goal.returns-in_err-push-clause-widths
returns-in_err-push-clause-widths g c =
    IfOk-from_err c.from_residual-in_err-push.result _ c.from_residual-in_err-push.ensures.0

pub returns-in_err-wider-clause-past : goal.returns-in_err-wider-clause-past
returns-in_err-wider-clause-past g c =
    IfOk-from_err c.from_residual.result _ c.from_residual.ensures.0

pub returns-in_err-wider-clause-rows : goal.returns-in_err-wider-clause-rows
returns-in_err-wider-clause-rows g c =
    IfOk-from_err c.from_residual.result _ c.from_residual.ensures.0

pub returns-in_err-wider-clause-widths : goal.returns-in_err-wider-clause-widths
returns-in_err-wider-clause-widths g c =
    IfOk-from_err c.from_residual.result _ c.from_residual.ensures.0

pub returns-in_err-with_random_cols-clause-past : goal.returns-in_err-with_random_cols-clause-past
returns-in_err-with_random_cols-clause-past g c =
    IfOk-from_err c.from_residual-in_err-with_random_cols.result _ c.from_residual-in_err-with_random_cols.ensures.0

pub returns-in_err-with_random_cols-clause-rows : goal.returns-in_err-with_random_cols-clause-rows
returns-in_err-with_random_cols-clause-rows g c =
    IfOk-from_err c.from_residual-in_err-with_random_cols.result _ c.from_residual-in_err-with_random_cols.ensures.0

pub returns-in_err-with_random_cols-clause-widths : goal.returns-in_err-with_random_cols-clause-widths
returns-in_err-with_random_cols-clause-widths g c =
    IfOk-from_err c.from_residual-in_err-with_random_cols.result _ c.from_residual-in_err-with_random_cols.ensures.0

pub returns-clause-widths : goal.returns-clause-widths
returns-clause-widths g c =
    c.loop-chunk.invariant.widths
    ∙ ap (λ cs. map (λ e. matrix_width e.1 + c.args.count) cs)
    (take_all c.loop-chunk.chunk-index c.args.chunks.now c.loop-chunk-test.false)

pub returns-clause-rows : goal.returns-clause-rows
returns-clause-rows g c =
    c.loop-chunk.invariant.widened
    ∙ ap (λ cs. chunks_with_random_columns g.F.SampleField.from_word c.args.count
    (map (λ e. rows e.1) cs) (g.R.Rng.stream c.args.rng.now))
    (take_all c.loop-chunk.chunk-index c.args.chunks.now c.loop-chunk-test.false)

pub returns-clause-past : goal.returns-clause-past
returns-clause-past g c =
    c.loop-chunk.invariant.stream
    ∙ ap (λ cs. past_columns c.args.count (map (λ e. rows e.1) cs) (g.R.Rng.stream c.args.rng.now))
    (take_all c.loop-chunk.chunk-index c.args.chunks.now c.loop-chunk-test.false)
