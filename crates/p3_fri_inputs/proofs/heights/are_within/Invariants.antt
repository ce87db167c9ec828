use Rattle.p3_fri_inputs.proofs.Places.{HoldsBelow}
use Rattle.p3_fri_relation.specs.Heights.{log_height}
use Rattle.p3_fri_relation.specs.Views.{matrix_claim}
use Rattle.std.proofs.Common.{◌≤◌}
use Rattle.p3_fri_inputs.proofs.heights.are_within.Given as goal

abbrev pub invariant-loop-k : goal.invariant-loop-k
invariant-loop-k g l =
    HoldsBelow (matrix_claim (λ domain. domain.log_size)) (λ m. log_height l.log_blowup m ≤ l.bound) l.matrices l.k
