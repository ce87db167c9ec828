use Rattle.std.proofs.Common.{◌++◌, take}
use Rattle.p3_fri_pcs_transcript.specs.Counts.{claimed_lists_at_points, claimed_lists_in_matrices, lists_of_claims}
use Rattle.p3_fri_pcs_transcript.proofs.Progress.{Progress}
use Rattle.p3_fri_pcs_transcript.proofs.pcs_transcript.claims.absorb_claims.Given as goal

abbrev pub invariant-loop-claim : goal.invariant-loop-claim
invariant-loop-claim g l =
    Progress g.C.CanObserve.observed g.EF.ExtensionField.coefficients g.EF.ExtensionField.DIMENSION
    l.fn.described l.described l.fn.script l.script l.fn.challenger l.challenger
    (lists_of_claims (take l.claim-index l.claims))

abbrev pub invariant-loop-matrix : goal.invariant-loop-matrix
invariant-loop-matrix g l =
    Progress g.C.CanObserve.observed g.EF.ExtensionField.coefficients g.EF.ExtensionField.DIMENSION
    l.fn.described l.described l.fn.script l.script l.fn.challenger l.challenger
    (lists_of_claims (take l.claim-index l.claims)
    ++ claimed_lists_in_matrices (take l.matrix-index l.matrix-items))

abbrev pub invariant-loop-point : goal.invariant-loop-point
invariant-loop-point g l =
    Progress g.C.CanObserve.observed g.EF.ExtensionField.coefficients g.EF.ExtensionField.DIMENSION
    l.fn.described l.described l.fn.script l.script l.fn.challenger l.challenger
    (lists_of_claims (take l.claim-index l.claims)
    ++ claimed_lists_in_matrices (take l.matrix-index l.matrix-items)
    ++ claimed_lists_at_points (take l.point-index l.point-items))
