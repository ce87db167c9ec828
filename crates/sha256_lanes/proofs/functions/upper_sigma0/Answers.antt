use Rattle.std.proofs.Common.{bit_xor, ap₂, ◌∙◌}
use Rattle.sha256_lanes.specs.Words.{lane_word}
use Rattle.sha256_lanes.proofs.Shifts.{upper0_is}
use Rattle.sha256_lanes.proofs.functions.upper_sigma0.Goals as goal

pub returns : goal.returns
returns c = λ lane lt.
    c.xor.ensures lane lt ∙ ap₂ bit_xor (c.three_right-low.ensures lane lt) (c.three_left-high.ensures lane lt)
    ∙ upper0_is (lane_word c.args.x lane) (c.args.x.small lane)
