use Rattle.std.proofs.Common.{◌≡◌, ap, ◌∙◌, arith}
use Rattle.p3_fri_pcs_transcript.specs.Shapes.{pcs_shape}
use Rattle.p3_fri_pcs_transcript.specs.Steps.{PcsNumbers}
use Rattle.p3_fri_core_tests.proofs.pcs_transcript.prover.proves.Goals as goal

pub batch_phase-drawn-requires-clause-at_most_max : goal.batch_phase-drawn-requires-clause-at_most_max
batch_phase-drawn-requires-clause-at_most_max g c =
    let given = rw c.expect-shape.ensures at c.from_opened_values-shape.ensures in
    let new = rw c.expect-transcript.ensures at c.new-transcript.ensures.starts in
    let same : (pcs_shape c.claimed_openings.new.self.shape).batch_pow_bits ≡ c.args.case.now.bits =
    ap (λ (s : PcsNumbers). s.batch_pow_bits)
    (c.claimed_openings.ensures.kept.shape ∙ new.shape ∙ given)
    ∙ c.parameters.ensures in
    omega (arith, same, c.requires.bits)
