-- The schedule of folds: by which log arities the tallest of some words is folded, round by round,
-- down to a final log height, while the others join it at their log heights.
use Rattle.std.specs.Prelude.{◌≡◌, ℕ, ◌+◌, ◌-◌, ◌/◌, ◌%◌, ◌<◌, ◌≤◌, ◌==◌, nat_lt, List, [], ◌∷◌}
use Rattle.std.specs.Prelude.{◌++◌, All, sum, take, length, filter, replicate, slice_index}
use Rattle.std.specs.Prelude.{if◌then◌else◌}

-- each height is below the one before it
abbrev pub IsStrictlyFalling : (heights : List ℕ) → Type 0
IsStrictlyFalling heights =
    (k : ℕ) → k + 1 < length heights → slice_index heights (k + 1) < slice_index heights k

-- the tallest of falling heights, which is the first (0 without heights)
abbrev pub tallest : (heights : List ℕ) → ℕ
tallest heights = slice_index heights 0

-- the stops: the tallest height, each further height above the final one, and the final one
unfoldable pub stops : (heights : List ℕ) (final : ℕ) → List ℕ
stops [] final = final ∷ []
stops (tallest ∷ further) final = tallest ∷ filter (nat_lt final) further ++ final ∷ []

-- a distance, cut into rounds of the cap and, where the cap doesn't divide it, one of the remainder
unfoldable pub rounds_over : (distance cap : ℕ) → List ℕ
rounds_over distance cap = replicate (distance / cap) cap
    ++ (if distance % cap == 0 then [] else (distance % cap) ∷ [])

-- the distances between neighbouring stops, each cut
unfoldable pub rounds_through : (stops : List ℕ) (cap : ℕ) → List ℕ
rounds_through [] cap = []
rounds_through (stop ∷ []) cap = []
rounds_through (stop ∷ next ∷ later) cap =
    rounds_over (stop - next) cap ++ rounds_through (next ∷ later) cap

-- the schedule; it is empty without inputs, and with the tallest height at or below the final one
unfoldable pub schedule : (heights : List ℕ) (final cap : ℕ) → List ℕ
schedule [] final cap = []
schedule (tallest ∷ further) final cap =
    if nat_lt final tallest then rounds_through (stops (tallest ∷ further) final) cap else []

-- some of the rounds, from the first on, lead from the height `top` to the height `stop`
abbrev pub Reaches : (top : ℕ) (rounds : List ℕ) (stop : ℕ) → Type 0
Reaches top rounds stop = (k : ℕ) × (sum (take k rounds) + stop ≡ top)

-- the rounds lead from the tallest height to the final one, and through every stop
pub record LeadsDown (heights : List ℕ) (final : ℕ) (rounds : List ℕ) : Type 0 where
  pub total : sum rounds + final ≡ tallest heights
  pub through : All (Reaches (tallest heights) rounds) (stops heights final)

-- no list of rounds of at most the cap that leads down as well is shorter
abbrev pub AreFewest : (heights : List ℕ) (final cap : ℕ) (rounds : List ℕ) → Type 0
AreFewest heights final cap rounds =
    (other : List ℕ) → All (λ log_arity. log_arity ≤ cap) other → LeadsDown heights final other
    → length rounds ≤ length other
