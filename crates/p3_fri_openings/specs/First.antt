-- The first element of a list of which something doesn't hold.
use Rattle.std.specs.Prelude.{ℕ, ◌<◌, List, length, take, All}
use Rattle.std.specs.List.{HoldsAt}

-- the elements before the place pass, and the one there is refused
pub record FirstAt {X : Type 0} (Passes Refused : X → Type 0) (xs : List X) (i : ℕ) : Type 0 where
  pub within : i < length xs
  pub before : All Passes (take i xs)
  pub here : HoldsAt Refused xs i
