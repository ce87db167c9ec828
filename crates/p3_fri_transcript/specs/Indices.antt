-- Indices that are drawn.
use Rattle.std.specs.Prelude.{◌≡◌, ◌^◌, ◌<◌, ℕ, List, length}
use Rattle.std.specs.List.{All}
use Rattle.p3_fri_transcript.specs.Steps.{FriNumbers}

-- as many as queries, each of the described width
pub record AreIndices (shape : FriNumbers) (indices : List ℕ) : Type 0 where
  pub count : length indices ≡ shape.num_queries
  pub below : All (λ index. index < 2 ^ shape.index_bits) indices
