-- What the verified relation sees of records.
use Rattle.std.specs.Prelude.{ℕ, ◌+◌, ◌-◌, ◌*◌, ◌^◌, ◌≤◌, min}
use Rattle.fri_records.specs.declared.records.Parameters.{Parameters}
use Rattle.p3_fri_relation.specs.Setting as setting
use Rattle.p3_fri_two_adic.specs.Ranges.{InProverRange}

-- the parameters that the relation speaks of
abbrev pub parameters_in : Parameters → setting.Parameters
parameters_in p = record {
  log_blowup = p.log_blowup;
  log_final_poly_len = p.log_final_poly_len;
  max_log_arity = p.max_log_arity;
  num_queries = p.num_queries;
  batch_pow_bits = p.batch_proof_of_work_bits;
  commit_pow_bits = p.commit_proof_of_work_bits;
  query_pow_bits = p.query_proof_of_work_bits;
}

-- the conjectured bits of soundness: those of the queries and of the proof of work before them, at
-- most as many as a number holds
abbrev pub conjectured_bits : Parameters → ℕ
conjectured_bits p = min (min (p.log_blowup * p.num_queries) (2 ^ 64 - 1)
    + p.query_proof_of_work_bits) (2 ^ 64 - 1)

-- each difficulty is at most what the challenger draws at once
pub record AreDifficultiesLow (p : Parameters) : Type 0 where
  pub batch : p.batch_proof_of_work_bits ≤ 63
  pub commit : p.commit_proof_of_work_bits ≤ 63
  pub query : p.query_proof_of_work_bits ≤ 63

-- parameters of a prover over a field of this two-adicity: in its range, with a blowup within the
-- two-adicity
pub record AreProvers (two_adicity : ℕ) (p : Parameters) : Type 0 where
  pub range : InProverRange (parameters_in p) two_adicity 63
  pub blowup : p.log_blowup ≤ two_adicity
