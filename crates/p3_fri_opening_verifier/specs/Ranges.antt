-- For which parameters openings are verified.
use Rattle.std.specs.Prelude.{ℕ, ◌+◌, ◌<◌, ◌≤◌}
use Rattle.p3_fri_relation.specs.Setting.{Parameters, final_height}

-- The parameters are in a verifier's range, over a field of this two-adicity, by a strategy that
-- draws so many bits of an index beside a position's and folds words of log heights up to
-- `greatest_log_height`, from a challenger that draws `most_bits` at once.
pub record IsInVerifierRange (p : Parameters)
    (two_adicity extra_bits greatest_log_height most_bits : ℕ) : Type 0 where
  -- the final log height is below 64
  pub final_height_below_64 : final_height p < 64
  -- the challenger draws as many bits at once as an index has
  pub index_bits_at_most_max : two_adicity + extra_bits ≤ most_bits
  -- as the difficulty before the batching challenge
  pub batch_bits_at_most_max : p.batch_pow_bits ≤ most_bits
  -- as that of each round
  pub commit_bits_at_most_max : p.commit_pow_bits ≤ most_bits
  -- and as that before the queries
  pub query_bits_at_most_max : p.query_pow_bits ≤ most_bits
  -- and all words on the field's cosets can be folded
  pub max_log_height : two_adicity ≤ greatest_log_height
