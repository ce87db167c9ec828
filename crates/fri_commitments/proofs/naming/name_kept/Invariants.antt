use Rattle.std.proofs.Common.{◌≡◌, map, take}
use Rattle.p3_matrix.specs.Matrix.{matrix_width}
use Rattle.p3_mmcs.specs.ProverData.{matrices_of}
use Rattle.fri_commitments.proofs.naming.name_kept.Given as goal

abbrev pub invariant-loop-index : goal.invariant-loop-index
invariant-loop-index g l =
    map (λ k. map (λ m. matrix_width m) (matrices_of k.data)) (take l.index l.all)
    ≡ map (λ b. map (λ m. m.width) b.matrices.items) (take l.index l.asked)
