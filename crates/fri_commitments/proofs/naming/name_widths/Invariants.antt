use Rattle.std.proofs.Common.{◌≡◌, map, take}
use Rattle.p3_matrix.specs.Matrix.{matrix_width}
use Rattle.fri_commitments.proofs.naming.name_widths.Given as goal

abbrev pub invariant-loop-index : goal.invariant-loop-index
invariant-loop-index g l = map (λ k. matrix_width k) (take l.index l.kept)
    ≡ map (λ m. m.width) (take l.index l.matrices)
