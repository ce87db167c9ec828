-- Where the transcript of a low-degree test stands.
use Rattle.std.specs.Prelude.{◌≡◌, ℕ, suc, ◌++◌, List, map}
use Rattle.p3_challenger_fs.specs.declared.pattern.Turn.{Turn}
use Rattle.p3_challenger_fs.specs.Pattern.{turn_of}
use Rattle.p3_fri_transcript.specs.Steps.{FriNumbers, rounds_steps, query_steps}

module _ (d : ℕ) (shape : FriNumbers) where
  -- what is left to play of a low-degree test are so many rounds, and then the queries
  abbrev pub RoundsLeft : (rounds : ℕ) (left : List Turn) → Type 0
  RoundsLeft rounds left =
      left ≡ map turn_of (rounds_steps d shape.commit_pow_bits rounds ++ query_steps d shape)

  -- a round is left
  abbrev pub SomeRoundLeft : List Turn → Type 0
  SomeRoundLeft left = (n : ℕ) × RoundsLeft (suc n) left

  -- a round was played
  abbrev pub RoundPlayed : (before after : List Turn) → Type 0
  RoundPlayed before after = (n : ℕ) → RoundsLeft (suc n) before → RoundsLeft n after
