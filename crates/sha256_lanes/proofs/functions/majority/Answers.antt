use Rattle.std.proofs.Common.{bit_and, bit_xor, ap, ap₂, ◌∙◌}
use Rattle.sha256_lanes.specs.Words.{lane_word}
use Rattle.sha256_lanes.proofs.Bitwise.{majority_is}
use Rattle.sha256_lanes.proofs.functions.majority.Goals as goal

pub returns : goal.returns
returns c = λ lane lt.
    c.xor.ensures lane lt
    ∙ ap (bit_xor (lane_word c.args.y lane)) (c.and-turned.ensures lane lt
    ∙ ap₂ bit_and (c.xor-before.ensures lane lt) (c.xor-after.ensures lane lt))
    ∙ majority_is (lane_word c.args.x lane) (lane_word c.args.y lane) (lane_word c.args.z lane)
