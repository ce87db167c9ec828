use Rattle.std.proofs.Common.{◌≡◌, false}
use Rattle.p3_fri_relation.specs.Heights.{has_height}
use Rattle.p3_fri_inputs.specs.Claims.{claim_of}
use Rattle.p3_fri_inputs.proofs.Places.{HoldsBelow}
use Rattle.p3_fri_inputs.proofs.heights.has_height.Given as goal

abbrev pub invariant-loop-batch : goal.invariant-loop-batch
invariant-loop-batch g l = HoldsBelow (claim_of (λ domain. domain.log_size))
    (λ c. has_height l.log_blowup c.matrices l.height ≡ false) l.claims l.batch
