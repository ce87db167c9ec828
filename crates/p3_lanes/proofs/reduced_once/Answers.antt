use Rattle.std.proofs.Common.{◌∙◌, arith}
use Rattle.p3_lanes.proofs.LaneLists.{map_same}
use Rattle.p3_lanes.proofs.Reductions.{lanes_once_reduced}
use Rattle.p3_lanes.proofs.reduced_once.Goals as goal

pub returns : goal.returns
returns c =
    map_same _
    ∙ lanes_once_reduced _ c.args.numbers 8 (map_same c.args.numbers) (omega arith) c.requires
