use Rattle.std.proofs.Common.{arith, subst, sym, ◌/◌, ◌<◌, length}
use Rattle.p3_matrix.specs.Matrix.{rows}
use Rattle.p3_mmcs.proofs.Heights.{quotient_of}
use Rattle.p3_mmcs.proofs.sha256_mmcs.opening.rows_at.Goals as goal

pub nonzero_div-height : goal.nonzero_div-height
nonzero_div-height g c =
    let q = quotient_of c.args.matrices.now c.requires.heights c.loop-matrix.matrix-index
    c.matrix-item.result (omega arith) c.matrix-item.is in
    omega (arith, q.some, c.height.ensures)

pub nonzero_div-index : goal.nonzero_div-index
nonzero_div-index g c =
    let q = quotient_of c.args.matrices.now c.requires.heights c.loop-matrix.matrix-index
    c.matrix-item.result (omega arith) c.matrix-item.is in
    subst (λ h. 0 < c.args.height / h) (sym c.height.ensures)
    (subst (λ h. 0 < h / length (rows c.matrix-item.result)) (sym c.requires.greatest) q.positive)

pub row-row-requires : goal.row-row-requires
row-row-requires g c =
    let q = quotient_of c.args.matrices.now c.requires.heights c.loop-matrix.matrix-index
    c.matrix-item.result (omega arith) c.matrix-item.is in
    let height = length (rows c.matrix-item.result) in
    record {
      below_height =
          subst (λ h. c.args.index / (c.args.height / h) < height) (sym c.height.ensures)
          (subst (λ h. c.args.index / (h / height) < height) (sym c.requires.greatest)
          (q.row_below c.args.index (omega (arith, c.requires.below, c.requires.greatest))));
    }
