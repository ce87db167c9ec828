-- What contracts see of a shape.
use Rattle.p3_fri_transcript.specs.declared.transcript.shape.FriShape.{FriShape}
use Rattle.p3_fri_transcript.specs.Steps.{FriNumbers}

unfoldable pub fri_shape : FriShape → FriNumbers
fri_shape s = record {
  log_arities = s.log_arities.items;
  final_poly_len = s.final_poly_len;
  commit_pow_bits = s.commit_pow_bits;
  query_pow_bits = s.query_pow_bits;
  num_queries = s.num_queries;
  index_bits = s.index_bits;
  log_blowup = s.log_blowup;
  max_log_arity = s.max_log_arity;
}
