-- What contracts see of a driver.
use Rattle.std.specs.Prelude.{◌≡◌, List}
use Rattle.std.specs.Borrow.{MutBor}
use Rattle.p3_challenger_fs.specs.declared.driver.TranscriptState.{TranscriptState}
use Rattle.p3_challenger_fs.specs.declared.pattern.Turn.{Turn}
use Rattle.p3_challenger_fs.specs.declared.script.Script.{Script}
use Rattle.p3_challenger_fs.specs.Script.{remaining}

module _ {Side C F : Type 0} where
  -- the state of the challenger
  abbrev pub state_of : TranscriptState Side C F Script → C
  state_of t = t.challenger.now

  -- the steps that aren't played yet, in order
  abbrev pub steps_left : TranscriptState Side C F Script → List Turn
  steps_left t = remaining t.script

  -- it borrows this challenger
  abbrev pub Borrows : MutBor C → TranscriptState Side C F Script → Type 0
  Borrows challenger t = t.challenger.ghost_name ≡ challenger.ghost_name

  -- both borrow the same challenger
  abbrev pub SameChallenger : (before after : TranscriptState Side C F Script) → Type 0
  SameChallenger before after = after.challenger.ghost_name ≡ before.challenger.ghost_name
