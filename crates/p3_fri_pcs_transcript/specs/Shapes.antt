-- What contracts see of a shape.
use Rattle.algebra.specs.Nested.{nested}
use Rattle.p3_fri_pcs_transcript.specs.declared.pcs_transcript.shape.PcsShape.{PcsShape}
use Rattle.p3_fri_pcs_transcript.specs.Steps.{PcsNumbers}

unfoldable pub pcs_shape : PcsShape → PcsNumbers
pcs_shape s = record {
  counts = nested s.claimed_evaluation_counts.items;
  batch_pow_bits = s.batch_pow_bits;
}
