use Rattle.std.proofs.Common.{◌≡◌, sym, ap, ◌∙◌, arith}
use Rattle.p3_fri_pcs_transcript.specs.Shapes.{pcs_shape}
use Rattle.p3_fri_pcs_transcript.specs.Steps.{PcsNumbers}
use Rattle.p3_fri_core_tests.proofs.pcs_transcript.verifier.verify.Goals as goal

pub batch_phase-requires-clause-all_claims_played : goal.batch_phase-requires-clause-all_claims_played
batch_phase-requires-clause-all_claims_played g c =
    let given = rw c.expect-shape.ensures at c.from_claims-shape.ensures in
    let starts = rw c.expect-transcript.ensures at c.new-transcript.ensures.starts in
    let whole = rw c.expect.ensures at c.claimed_openings-claimed.ensures.whole in
    whole (sym (ap (λ (s : PcsNumbers). s.counts) (starts.shape ∙ given)))

pub batch_phase-requires-clause-at_most_max : goal.batch_phase-requires-clause-at_most_max
batch_phase-requires-clause-at_most_max g c =
    let given = rw c.expect-shape.ensures at c.from_claims-shape.ensures in
    let starts = rw c.expect-transcript.ensures at c.new-transcript.ensures.starts in
    let same : (pcs_shape c.claimed_openings-claimed.new.self.shape).batch_pow_bits ≡ c.args.case.now.bits =
    ap (λ (s : PcsNumbers). s.batch_pow_bits)
    (c.claimed_openings-claimed.ensures.kept.shape ∙ starts.shape ∙ given)
    ∙ c.parameters.ensures in
    omega (arith, same, c.requires)
