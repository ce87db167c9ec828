use Rattle.std.proofs.Common.{map, get_or}
use Rattle.algebra.specs.Nested.{lists}
use Rattle.p3_matrix.specs.Matrix.{rows, matrix_width}
use Rattle.p3_fri_masks.proofs.Batches.{IsLeft}
use Rattle.p3_fri_masks.specs.MaskedChunks.{HoldMaskedChunks}
use Rattle.p3_fri_masks.proofs.ldes.masked_extensions.Given as goal

-- the words of the matrices so far
abbrev pub invariant-loop-chunk : goal.invariant-loop-chunk
invariant-loop-chunk g l = record {
  held : HoldMaskedChunks g.F.Field.ops g.F.TwoAdicField.root
      (get_or (map (λ e. e.0.log_size) l.chunks) 0 0) g.F.Field.GENERATOR l.log_blowup
      (map (λ e. e.0.shift) l.chunks) (get_or (map matrix_width l.fn.wider.items) 0 0)
      (map rows l.yielded) (lists l.masks) l.ldes.items;
  left : IsLeft l.yielded l.chunk-iterator.rest.items l.fn.wider.items l.chunk-iterator.rest.len;
}
