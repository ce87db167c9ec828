use Rattle.std.proofs.Common.{ℕ, ◌/◌, ◌^◌, bit_xor, ap, ◌∙◌}
use Rattle.sha256_lanes.specs.Words.{lane_word}
use Rattle.sha256_lanes.proofs.Shifts.{right_three}
use Rattle.sha256_lanes.proofs.functions.three_right.Goals as goal

pub returns : goal.returns
returns c = λ lane lt.
    let w = lane_word c.args.x lane in
    c.shifted_right-3.ensures lane lt
    ∙ ap (λ (n : ℕ). n / 2 ^ c.args.c) (
    c.xor-two.ensures lane lt ∙ ap (bit_xor w) (
    c.shifted_right-2.ensures lane lt
    ∙ ap (λ (n : ℕ). n / 2 ^ c.args.b) (c.xor-one.ensures lane lt ∙ ap (bit_xor w) (c.shifted_right.ensures lane lt))))
    ∙ right_three w c.args.a c.args.b c.args.c
