use Rattle.std.proofs.Common.{◌≡◌, ◌/◌, length, map}
use Rattle.std.specs.Prelude.{All}
use Rattle.algebra.specs.Polynomial.{tabulate}
use Rattle.p3_matrix.specs.Matrix.{rows, matrix_width}
use Rattle.p3_domain.specs.Domains.{strided_rows}
use Rattle.p3_domain.proofs.strided.split_rows.Given as goal

-- the chunks so far, and their widths
abbrev pub invariant-loop-chunk : goal.invariant-loop-chunk
invariant-loop-chunk g l =
    (map (λ m. rows m) l.chunks.items ≡ tabulate l.chunk
    (strided_rows l.fn.num_chunks (length (rows l.fn.matrix) / l.fn.num_chunks)
    (rows l.fn.matrix)))
    × All (λ w. w ≡ matrix_width l.fn.matrix) (map (λ m. matrix_width m) l.chunks.items)
