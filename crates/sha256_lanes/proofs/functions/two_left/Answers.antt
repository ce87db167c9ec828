use Rattle.std.proofs.Common.{ℕ, bit_xor, ap, ◌∙◌}
use Rattle.sha256_lanes.specs.Words.{lane_word, left}
use Rattle.sha256_lanes.proofs.Shifts.{left_two}
use Rattle.sha256_lanes.proofs.functions.two_left.Goals as goal

pub returns : goal.returns
returns c = λ lane lt.
    let w = lane_word c.args.x lane in
    c.shifted_left-2.ensures lane lt
    ∙ ap (λ (n : ℕ). left n c.args.b) (c.xor-one.ensures lane lt ∙ ap (bit_xor w) (c.shifted_left.ensures lane lt))
    ∙ left_two w c.args.a c.args.b
