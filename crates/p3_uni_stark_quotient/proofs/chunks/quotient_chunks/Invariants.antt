use Rattle.std.proofs.Common.{◌≡◌, map}
use Rattle.algebra.specs.Polynomial.{tabulate}
use Rattle.p3_matrix.specs.Matrix.{rows}
use Rattle.p3_uni_stark_quotient.specs.Chunked.{chunk_rows}
use Rattle.p3_uni_stark_quotient.proofs.chunks.quotient_chunks.Given as goal

-- the chunks so far
abbrev pub invariant-loop-chunk : goal.invariant-loop-chunk
invariant-loop-chunk g l = map (λ m. rows m) l.chunks.items ≡ tabulate l.chunk
    (chunk_rows g.EF.ExtensionField.coefficients g.EF.Field.ops.zero l.fn.log_size
    l.fn.log_num_chunks l.fn.values)
