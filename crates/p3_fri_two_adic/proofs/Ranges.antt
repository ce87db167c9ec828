-- Parameters in the prover's range are in the verifier's, where the final height is below 64.
use Rattle.std.proofs.Common.{◌<◌, ℕ}
use Rattle.p3_fri_relation.specs.Setting.{Parameters, final_height}
use Rattle.p3_fri_two_adic.specs.Ranges.{InProverRange, InVerifierRange}

pub in_verifier_range : (p : Parameters) (two_adicity most_bits : ℕ)
    → InProverRange p two_adicity most_bits → final_height p < 64
    → InVerifierRange p two_adicity most_bits
in_verifier_range p two_adicity most_bits range low = record {
  final_height_below_64 = low;
  index_bits_at_most_max = range.rounds.test.index_bits;
  batch_bits_at_most_max = range.rounds.batch_bits;
  commit_bits_at_most_max = range.rounds.test.commit_bits;
  query_bits_at_most_max = range.rounds.test.query_bits;
  max_log_height = range.rounds.max_log_height;
}
