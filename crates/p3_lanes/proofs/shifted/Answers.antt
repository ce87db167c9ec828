use Rattle.std.proofs.Common.{◌/◌, ◌^◌, arith}
use Rattle.p3_lanes.proofs.LaneLists.{zip2_one}
use Rattle.p3_lanes.proofs.shifted.Goals as goal

pub returns : goal.returns
returns c = zip2_one (λ n k. n / 2 ^ k) c.args.numbers 8 c.args.bits (omega arith)
