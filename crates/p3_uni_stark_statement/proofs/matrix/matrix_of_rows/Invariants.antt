use Rattle.std.proofs.Common.{◌≡◌, map, take}
use Rattle.algebra.specs.Nested.{joined}
use Rattle.p3_uni_stark_statement.proofs.matrix.matrix_of_rows.Given as goal

abbrev pub invariant-loop-row : goal.invariant-loop-row
invariant-loop-row g l =
    l.values.items ≡ joined (map (λ row. row.items) (take l.row-index l.rows))
