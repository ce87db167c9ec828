-- What a low-degree test exchanges: the steps, and the numbers that they don't determine.
use Rattle.std.specs.Prelude.{ℕ, zero, suc, List, [], ◌∷◌, ◌++◌, length, map, codes}
use Rattle.p3_challenger_fs.specs.declared.pattern.Hierarchy.TheVariants.{Atomic}
use Rattle.p3_challenger_fs.specs.declared.pattern.Kind.TheVariants.{Message, Challenge}
use Rattle.p3_challenger_fs.specs.declared.pattern.TypeTag.TheVariants.{Opaque, Bits}
use Rattle.p3_challenger_fs.specs.declared.pattern.Length.TheVariants.{Scalar, Fixed}
use Rattle.p3_challenger_fs.specs.Pattern.{Step, number_bytes, seed_stream}
use Rattle.p3_fri_pow.specs.Steps.{pow_steps, challenge_step, message_step}

-- what a shape of a low-degree test says
pub record FriNumbers : Type 0 where
  pub log_arities : List ℕ
  pub final_poly_len : ℕ
  pub commit_pow_bits : ℕ
  pub query_pow_bits : ℕ
  pub num_queries : ℕ
  pub index_bits : ℕ
  pub log_blowup : ℕ
  pub max_log_arity : ℕ

abbrev pub commitment_step : Step
commitment_step = record {
  hierarchy = Atomic;
  kind = Message;
  type_tag = Opaque;
  label = codes "commit_phase_commitment";
  length = Scalar;
}

abbrev pub indices_step : FriNumbers → Step
indices_step s = record {
  hierarchy = Atomic;
  kind = Challenge;
  type_tag = Bits s.index_bits;
  label = codes "query_indices";
  length = Fixed s.num_queries;
}

-- the numbers that the steps of a low-degree test don't determine
unfoldable pub fri_labels : FriNumbers → List (List ℕ)
fri_labels s = map number_bytes (s.log_blowup ∷ s.max_log_arity ∷ s.log_arities)

module _ (d : ℕ) where
  -- a round: its commitment, its proof of work, its challenge
  abbrev pub round_steps : (bits : ℕ) → List Step
  round_steps bits =
      commitment_step
      ∷ (pow_steps (codes "commit_pow") bits ++ challenge_step d (codes "fold_challenge") ∷ [])

  -- so many rounds
  abbrev pub rounds_steps : (bits n : ℕ) → List Step
  rounds_steps bits zero = []
  rounds_steps bits (suc n) = round_steps bits ++ rounds_steps bits n

  -- the final polynomial, its proof of work, the queries' indices
  abbrev pub query_steps : FriNumbers → List Step
  query_steps s =
      message_step d (codes "final_poly") s.final_poly_len
      ∷ (pow_steps (codes "query_pow") s.query_pow_bits ++ indices_step s ∷ [])

  unfoldable pub fri_steps : FriNumbers → List Step
  fri_steps s = rounds_steps s.commit_pow_bits (length s.log_arities) ++ query_steps s

  -- the stream of a low-degree test
  unfoldable pub fri_stream : FriNumbers → List ℕ
  fri_stream s = seed_stream 0x01 (codes "p3-fri") (fri_steps s) (fri_labels s)
