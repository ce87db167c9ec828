-- What the stream of a low-degree test determines of its shape, and which numbers eight bytes hold.
use Rattle.std.specs.Prelude.{◌≡◌, ◌<◌, length}
use Rattle.std.specs.List.{All}
use Rattle.p3_challenger_fs.specs.StreamLaws.{FitsNumber}
use Rattle.p3_fri_transcript.specs.Steps.{FriNumbers}

-- two shapes of one transcript: all numbers agree, the bits of a round's proof of work only if
-- there is a round
pub record SameFriShape (s t : FriNumbers) : Type 0 where
  pub log_arities : s.log_arities ≡ t.log_arities
  pub final_poly_len : s.final_poly_len ≡ t.final_poly_len
  pub commit_pow_bits : 0 < length s.log_arities → s.commit_pow_bits ≡ t.commit_pow_bits
  pub query_pow_bits : s.query_pow_bits ≡ t.query_pow_bits
  pub num_queries : s.num_queries ≡ t.num_queries
  pub index_bits : s.index_bits ≡ t.index_bits
  pub log_blowup : s.log_blowup ≡ t.log_blowup
  pub max_log_arity : s.max_log_arity ≡ t.max_log_arity

-- eight bytes hold each number of the shape
pub record FitsFri (s : FriNumbers) : Type 0 where
  pub log_arities : All FitsNumber s.log_arities
  pub final_poly_len : FitsNumber s.final_poly_len
  pub commit_pow_bits : FitsNumber s.commit_pow_bits
  pub query_pow_bits : FitsNumber s.query_pow_bits
  pub num_queries : FitsNumber s.num_queries
  pub index_bits : FitsNumber s.index_bits
  pub log_blowup : FitsNumber s.log_blowup
  pub max_log_arity : FitsNumber s.max_log_arity
