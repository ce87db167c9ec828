use Rattle.std.proofs.Common.{◌≡◌, ◌++◌, map, drop, codes}
use Rattle.p3_challenger_fs.specs.Pattern.{step_of}
use Rattle.p3_fri_pow.specs.Steps.{message_step}
use Rattle.p3_fri_pcs_transcript.proofs.pcs_transcript.description.push_claims_at_points.Given as goal

abbrev pub invariant-loop-count : goal.invariant-loop-count
invariant-loop-count g l =
    let claim = message_step g.EF.ExtensionField.DIMENSION (codes "claimed_evaluations") in
    map step_of l.steps.items ++ map claim ((drop l.count-index l.counts))
    ≡ map step_of l.initial.steps.items ++ map claim (l.counts)
