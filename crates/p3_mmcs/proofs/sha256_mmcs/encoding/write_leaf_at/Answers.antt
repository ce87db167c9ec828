use Rattle.std.proofs.Common.{◌≡◌, ◌≤◌, ◌<◌, ◌+◌, ◌-◌, ◌*◌, ◌/◌, [], ◌∷◌, length, map}
use Rattle.std.proofs.Common.{arith, subst, sym, ap₂, ◌∙◌}
use Rattle.std.proofs.lemmas.List.{length-set, length-map, take_more_set}
use Rattle.std.proofs.lemmas.List.Edits.{length-between}
use Rattle.p3_matrix.specs.Matrix.{rows, matrix_width}
use Rattle.p3_mmcs.specs.Batch.{opened_row}
use Rattle.p3_mmcs.specs.Tree.{row_bytes}
use Rattle.p3_mmcs.proofs.Buffers.{length_written, written_more, rows_length_from, opened_entry}
use Rattle.p3_mmcs.proofs.Heights.{quotient_of}
use Rattle.p3_mmcs.proofs.sha256_mmcs.encoding.write_leaf_at.Goals as goal

pub loop-matrix-init : goal.loop-matrix-init
loop-matrix-init g c = record {
  place = omega (arith, c.requires.len, length-set c.args.out.now 0 0);
  written = take_more_set c.args.out.now 0 0 (omega (arith, c.requires.len));
}

pub nonzero_div-height : goal.nonzero_div-height
nonzero_div-height g c =
    let q = quotient_of c.args.matrices.now c.requires.heights c.loop-matrix.matrix-index
    c.matrix-item.result (omega arith) c.matrix-item.is in
    omega (arith, q.some, c.height.ensures)

pub nonzero_div-index : goal.nonzero_div-index
nonzero_div-index g c =
    let q = quotient_of c.args.matrices.now c.requires.heights c.loop-matrix.matrix-index
    c.matrix-item.result (omega arith) c.matrix-item.is in
    subst (λ h. 0 < c.args.height / h) (sym c.height.ensures)
    (subst (λ h. 0 < h / length (rows c.matrix-item.result)) (sym c.requires.greatest) q.positive)

pub row-row-requires : goal.row-row-requires
row-row-requires g c =
    let q = quotient_of c.args.matrices.now c.requires.heights c.loop-matrix.matrix-index
    c.matrix-item.result (omega arith) c.matrix-item.is in
    let height = length (rows c.matrix-item.result) in
    record {
      below_height =
          subst (λ h. c.args.index / (c.args.height / h) < height) (sym c.height.ensures)
          (subst (λ h. c.args.index / (h / height) < height) (sym c.requires.greatest)
          (q.row_below c.args.index (omega (arith, c.requires.below, c.requires.greatest))));
    }

pub loop-matrix-preserved : goal.loop-matrix-preserved
loop-matrix-preserved g c =
    let LEN = g.T.ElementBytes.LEN in
    let matrices = c.args.matrices.now in
    let k = c.loop-matrix.matrix-index in
    let matrix = c.matrix-item.result in
    let row = c.row-row.result.now in
    let at = c.loop-matrix.at in
    let end = at + (8 + c.LEN.result * length row) in
    let out = c.loop-matrix.out in
    let part = c.write_row.new.out in
    let here = c.loop-matrix.invariant in
    let next = rows_length_from matrices k matrix c.loop-matrix-test.true c.matrix-item.is LEN in
    let size : c.LEN.result * length row ≡ LEN * matrix_width matrix =
    ap₂ (λ a b. a * b) c.LEN.ensures c.row-row.ensures.width in
    let room : at + (end - at) ≤ length out = omega (arith, here.place, next, size) in
    let long : length part ≡ end - at =
    c.write_row.auto.out ∙ length-between out at end (omega (arith, room)) in
    let entry =
    opened_entry matrices k matrix c.loop-matrix-test.true c.matrix-item.is c.args.height
    c.args.index c.height.result row c.height.ensures c.row-row.ensures.row in
    record {
      place =
          omega (arith, here.place, next, size, length_written out part at (end - at) room long);
      written =
          written_more (row_bytes g.T.ElementBytes.bytes) (0 ∷ [])
          (map (opened_row c.args.height c.args.index) matrices) k row out part at (end - at) end
          (omega (
            arith,
            c.loop-matrix-test.true,
            length-map matrices (opened_row c.args.height c.args.index),
          ))
          entry (omega (arith, room)) c.write_row.ensures (omega (arith, long)) here.written;
    }
