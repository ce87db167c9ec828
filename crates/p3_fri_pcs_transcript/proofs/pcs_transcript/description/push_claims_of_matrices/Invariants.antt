use Rattle.std.proofs.Common.{◌≡◌, ◌++◌, map, drop, codes}
use Rattle.algebra.specs.Nested.{lists, joined}
use Rattle.p3_challenger_fs.specs.Pattern.{step_of}
use Rattle.p3_fri_pow.specs.Steps.{message_step}
use Rattle.p3_fri_pcs_transcript.proofs.pcs_transcript.description.push_claims_of_matrices.Given as goal

abbrev pub invariant-loop-points : goal.invariant-loop-points
invariant-loop-points g l =
    let claim = message_step g.EF.ExtensionField.DIMENSION (codes "claimed_evaluations") in
    map step_of l.steps.items ++ map claim (joined (lists (drop l.points-index l.matrices)))
    ≡ map step_of l.initial.steps.items ++ map claim (joined (lists l.matrices))
