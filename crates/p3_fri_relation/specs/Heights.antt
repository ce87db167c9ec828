-- The log heights of claimed matrices.
use Rattle.std.specs.Prelude.{◌==◌, ℕ, zero, suc, ◌+◌, ◌-◌, ◌/◌, ◌^◌, max, Bool, if◌then◌else◌}
use Rattle.std.specs.Prelude.{List, [], ◌∷◌, ◌++◌, map, fold, length, slice_index}
use Rattle.std.specs.List.{flat_map, list_any}
use Rattle.p3_matrix.specs.declared.Dimensions.{Dimensions}
use Rattle.p3_fri_relation.specs.Setting.{MatrixClaim, CommitmentClaim}

module _ {E InCom : Type 0} where
  -- all claimed matrices, in order
  abbrev pub matrices_of : List (CommitmentClaim E InCom) → List (MatrixClaim E)
  matrices_of claims = flat_map (λ c. c.matrices) claims

module _ {E : Type 0} where
  -- how many values are claimed at each point, by the first of them (0 without points)
  abbrev pub width : MatrixClaim E → ℕ
  width m = slice_index (map (λ z. length z.values) m.points) 0

module _ (log_blowup : ℕ) {E : Type 0} where
  -- a matrix stands on a coset `2^log_blowup` times as large as its domain
  abbrev pub log_height : MatrixClaim E → ℕ
  log_height m = m.domain + log_blowup

  abbrev pub dimensions : MatrixClaim E → Dimensions
  dimensions m = record { width = width m; height = 2 ^ log_height m }

  -- the greatest log height of these matrices (0 without matrices)
  abbrev pub greatest_height : List (MatrixClaim E) → ℕ
  greatest_height ms = fold (λ h m. max h (log_height m)) 0 ms

  -- whether some of these matrices has the log height
  abbrev pub has_height : List (MatrixClaim E) → ℕ → Bool
  has_height ms h = list_any (λ m. log_height m == h) ms

  -- the log heights of these matrices that are below `n`, each once, falling
  abbrev pub heights_below : List (MatrixClaim E) → (n : ℕ) → List ℕ
  heights_below ms zero = []
  heights_below ms (suc n) = (if has_height ms n then n ∷ [] else []) ++ heights_below ms n

  -- the log heights of these matrices, each once, falling
  abbrev pub heights_of : List (MatrixClaim E) → List ℕ
  heights_of ms = heights_below ms (suc (greatest_height ms))

  -- the index at which a position of log height `top` opens the matrices under one commitment: the
  -- position of their greatest log height, and 0 where there is no matrix
  abbrev pub opened_index : (top : ℕ) → List (MatrixClaim E) → (position : ℕ) → ℕ
  opened_index top [] position = 0
  opened_index top (m ∷ ms) position = position / 2 ^ (top - greatest_height (m ∷ ms))
