-- Which states a challenger reaches.
use Rattle.std.specs.Prelude.{◌≡◌, List}
use Rattle.p3_challenger_core.specs.Run.{Moves, Event, run}

-- some events, observed and drawn in order, lead from the one state to the other
pub record Reaches {C F E Com : Type 0} (m : Moves C F E Com) (before after : C) : Type 0 where
  pub events : List (Event F Com)
  pub state : (run m before events).state ≡ after
