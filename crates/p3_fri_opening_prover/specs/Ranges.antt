-- For which parameters openings are made.
use Rattle.std.specs.Prelude.{ℕ, ◌<◌, ◌≤◌}
use Rattle.p3_fri_relation.specs.Setting.{Parameters}
use Rattle.p3_fri_prover.specs.Prover.{IsInProverRange}

-- over a field of this two-adicity, by a strategy that draws so many bits of an index beside a
-- position's and folds words of log heights up to `greatest_log_height`, from a challenger that
-- draws `most_bits` at once
module _ (p : Parameters) (two_adicity extra_bits greatest_log_height most_bits : ℕ) where
  -- the parameters are in the range of a prover of rounds
  pub record IsInRoundsRange : Type 0 where
    -- in that of the test's prover
    pub test : IsInProverRange p two_adicity extra_bits most_bits
    -- the challenger draws as many bits at once as the difficulty before the batching challenge
    pub batch_bits : p.batch_pow_bits ≤ most_bits
    -- and all words on the field's cosets can be folded
    pub max_log_height : two_adicity ≤ greatest_log_height

  -- and in that of a prover of requests
  pub record IsInOpeningRange : Type 0 where
    -- words are longer than what they are words of
    pub blowup : 0 < p.log_blowup
    -- some position of theirs is queried
    pub queries : 0 < p.num_queries
    pub rounds : IsInRoundsRange
