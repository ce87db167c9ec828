use Rattle.std.proofs.Common.{◌≡◌, map, take}
use Rattle.algebra.specs.Polynomial.{val}
use Rattle.p3_matrix.specs.Matrix.{rows}
use Rattle.p3_fri_batch.proofs.compression.compress.Given as goal

abbrev pub invariant-loop-i : goal.invariant-loop-i
invariant-loop-i g l = l.compressed.items ≡ map (λ row. val g.EF.Field.ops
    (map g.EF.ExtensionField.lift row) l.ladder.alpha) (take l.i (rows l.matrix))
