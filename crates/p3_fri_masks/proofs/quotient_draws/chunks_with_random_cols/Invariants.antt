use Rattle.p3_matrix.specs.Matrix.{rows, matrix_width}
use Rattle.p3_fri_masks.proofs.ChunksDrawn.{AreWidened}
use Rattle.p3_fri_masks.proofs.quotient_draws.chunks_with_random_cols.Given as goal

-- the chunks before the index have their random columns
abbrev pub invariant-loop-chunk : goal.invariant-loop-chunk
invariant-loop-chunk g l = AreWidened g.F.SampleField.from_word (λ e. rows e.1)
    (λ e. matrix_width e.1) l.count l.chunks (g.R.Rng.stream l.fn.rng) l.chunk-index
    l.wider.items (g.R.Rng.stream l.rng)
