use Rattle.std.proofs.Common.{◌≡◌, ◌+◌, ◌*◌, ◌^◌, slice_index_or}
use Rattle.algebra.specs.Nested.{joined}
use Rattle.algebra.specs.Polynomial.{tabulate}
use Rattle.p3_uni_stark_quotient.proofs.chunks.quotient_chunk.Given as goal

-- the rows so far
abbrev pub invariant-loop-row : goal.invariant-loop-row
invariant-loop-row g l = l.coefficients.items ≡ joined (tabulate l.row
    (λ j. g.EF.ExtensionField.coefficients (slice_index_or l.fn.values
    (l.fn.chunk + j * 2 ^ l.fn.log_num_chunks) g.EF.Field.ops.zero)))
