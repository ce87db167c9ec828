use Rattle.p3_fri_inputs.proofs.Places.{HoldsBelow}
use Rattle.p3_fri_relation.specs.Views.{matrix_claim}
use Rattle.p3_fri_relation.specs.Heights.{width}
use Rattle.std.proofs.Common.{◌≤◌}
use Rattle.p3_fri_inputs.proofs.claims.greatest_width_of.Given as goal

abbrev pub invariant-loop-k : goal.invariant-loop-k
invariant-loop-k g l =
    HoldsBelow (matrix_claim (λ domain. domain.log_size)) (λ m. width m ≤ l.greatest) l.matrices l.k
