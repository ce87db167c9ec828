-- The log heights of opened matrices.
use Rattle.std.specs.Prelude.{◌==◌, ℕ, zero, suc, Bool, if◌then◌else◌, List, [], ◌∷◌, ◌++◌}
use Rattle.std.specs.List.{list_any}
use Rattle.p3_fri_openings.specs.Rounds.{log_height}
use Rattle.p3_fri_batch.specs.Words.{Opened}

module _ {F E : Type 0} where
  -- whether some of these matrices has the log height
  abbrev pub has_height : List (Opened F E) → ℕ → Bool
  has_height ms h = list_any (λ m. log_height m.matrix == h) ms

  -- the log heights of these matrices that are below `n`, each once, falling
  abbrev pub heights_below : List (Opened F E) → (n : ℕ) → List ℕ
  heights_below ms zero = []
  heights_below ms (suc n) = (if has_height ms n then n ∷ [] else []) ++ heights_below ms n
