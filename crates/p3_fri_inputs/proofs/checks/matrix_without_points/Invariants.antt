use Rattle.std.proofs.Common.{◌≢◌, []}
use Rattle.p3_fri_relation.specs.Views.{matrix_claim}
use Rattle.p3_fri_inputs.proofs.Places.{HoldsBelow}
use Rattle.p3_fri_inputs.proofs.checks.matrix_without_points.Given as goal

abbrev pub invariant-loop-k : goal.invariant-loop-k
invariant-loop-k g l =
    HoldsBelow (matrix_claim (λ domain. domain.log_size)) (λ m. m.points ≢ []) l.matrices l.k
