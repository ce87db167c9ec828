-- Where a script stands.
use Rattle.std.specs.Prelude.{◌+◌, List, drop}
use Rattle.p3_challenger_fs.specs.declared.pattern.Turn.{Turn}
use Rattle.p3_challenger_fs.specs.declared.script.Script.{Script}

-- the steps that aren't played yet, in order
unfoldable pub remaining : Script → List Turn
remaining script = drop script.played script.turns.items

-- the script when one more step is played
abbrev pub step_played : Script → Script
step_played script = record script { played = script.played + 1 }
