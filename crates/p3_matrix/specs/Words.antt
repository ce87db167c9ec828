-- What is drawn from a generator: its words of 64 bits, and a value of each.
use Rattle.std.specs.Prelude.{ℕ, zero, suc, List, [], ◌∷◌}
use Rattle.rand_core.specs.Stream.{Stream, next_u64}

-- what is left after the next `n` words
unfoldable pub past : ℕ → Stream → Stream
past zero s = s
past (suc n) s = past n (next_u64 s).1

module _ {T : Type 0} (from_word : ℕ → T) where
  -- `n` random values, each of the next word
  unfoldable pub randoms : ℕ → Stream → List T
  randoms zero s = []
  randoms (suc n) s = from_word (next_u64 s).0 ∷ randoms n (next_u64 s).1
