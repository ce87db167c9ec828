use Rattle.p3_lanes.proofs.LaneLists.{map_same}
use Rattle.std.proofs.Common.{◌∙◌}
use Rattle.p3_lanes.proofs.low_halves.Goals as goal

pub returns : goal.returns
returns c = map_same _ ∙ map_same c.args.numbers
