use Rattle.std.proofs.Common.{◌≡◌, ◌++◌, map, drop, codes}
use Rattle.algebra.specs.Nested.{nested}
use Rattle.p3_challenger_fs.specs.Pattern.{step_of}
use Rattle.p3_fri_pcs_transcript.specs.Steps.{widths}
use Rattle.p3_fri_pow.specs.Steps.{message_step}
use Rattle.p3_fri_pcs_transcript.proofs.pcs_transcript.description.push_claims.Given as goal

abbrev pub invariant-loop-matrices : goal.invariant-loop-matrices
invariant-loop-matrices g l =
    let claim = message_step g.EF.ExtensionField.DIMENSION (codes "claimed_evaluations") in
    map step_of l.steps.items ++ map claim (widths (nested (drop l.matrices-index l.commitments)))
    ≡ map step_of l.initial.steps.items ++ map claim (widths (nested l.commitments))
