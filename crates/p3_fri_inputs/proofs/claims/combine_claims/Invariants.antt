use Rattle.p3_fri_relation.specs.Views.{claims_of}
use Rattle.p3_fri_inputs.specs.Claims.{combined_values}
use Rattle.algebra.specs.Nested.{lists}
use Rattle.std.proofs.Common.{map, take, ◌≡◌}
use Rattle.p3_fri_inputs.proofs.claims.combine_claims.Given as goal

abbrev pub invariant-loop-batch : goal.invariant-loop-batch
invariant-loop-batch g l = lists l.combined.items
    ≡ map (λ c. combined_values g.EF.Field.ops l.ladder.alpha c.matrices)
    (take l.batch (claims_of (λ domain. domain.log_size) l.claims))
