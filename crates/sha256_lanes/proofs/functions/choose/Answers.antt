use Rattle.std.proofs.Common.{bit_and, bit_xor, ap, ◌∙◌}
use Rattle.sha256_lanes.specs.Words.{lane_word}
use Rattle.sha256_lanes.proofs.Bitwise.{choice_is}
use Rattle.sha256_lanes.proofs.functions.choose.Goals as goal

pub returns : goal.returns
returns c = λ lane lt.
    c.xor.ensures lane lt
    ∙ ap (bit_xor (lane_word c.args.z lane)) (c.and-chosen.ensures lane lt
    ∙ ap (bit_and (lane_word c.args.x lane)) (c.xor-differing.ensures lane lt))
    ∙ choice_is _ _ _ (c.args.x.small lane) (c.args.y.small lane) (c.args.z.small lane)
