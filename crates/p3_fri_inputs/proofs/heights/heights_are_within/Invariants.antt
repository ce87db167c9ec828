use Rattle.std.proofs.Common.{All, ◌≤◌}
use Rattle.p3_fri_inputs.proofs.Places.{HoldsBelow}
use Rattle.p3_fri_inputs.specs.Claims.{claim_of}
use Rattle.p3_fri_relation.specs.Heights.{log_height}
use Rattle.p3_fri_inputs.proofs.heights.heights_are_within.Given as goal

abbrev pub invariant-loop-batch : goal.invariant-loop-batch
invariant-loop-batch g l =
    HoldsBelow (claim_of (λ domain. domain.log_size)) (λ c. All (λ m. log_height l.log_blowup m ≤ l.bound) c.matrices)
    l.claims l.batch
