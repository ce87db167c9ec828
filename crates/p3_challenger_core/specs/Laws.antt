-- What the law functions say.
use Rattle.std.specs.Prelude.{◌≡◌, List, ◌++◌}
use Rattle.p3_challenger_core.specs.Run.{Moves, Event, run}

-- a run along one list of events and then another is the run along the two joined
pub record RunsJoin {C F E Com : Type 0} (m : Moves C F E Com) (c : C)
    (first second : List (Event F Com)) : Type 0 where
  pub values : (run m c (first ++ second)).value ≡ (run m c first).value
      ++ (run m (run m c first).state second).value
  pub state : (run m c (first ++ second)).state ≡ (run m (run m c first).state second).state
