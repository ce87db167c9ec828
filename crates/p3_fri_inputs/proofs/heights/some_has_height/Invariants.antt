use Rattle.std.proofs.Common.{◌≡◌, false, eqb}
use Rattle.p3_fri_relation.specs.Heights.{log_height}
use Rattle.p3_fri_relation.specs.Views.{matrix_claim}
use Rattle.p3_fri_inputs.proofs.Places.{HoldsBelow}
use Rattle.p3_fri_inputs.proofs.heights.some_has_height.Given as goal

abbrev pub invariant-loop-k : goal.invariant-loop-k
invariant-loop-k g l = HoldsBelow (matrix_claim (λ domain. domain.log_size))
    (λ m. eqb (log_height l.log_blowup m) l.height ≡ false) l.matrices l.k
