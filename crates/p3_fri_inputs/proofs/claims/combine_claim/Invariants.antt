use Rattle.p3_fri_inputs.specs.Claims.{combined_values}
use Rattle.std.proofs.Common.{take, map, ◌≡◌}
use Rattle.p3_fri_relation.specs.Views.{matrix_claim}
use Rattle.p3_fri_inputs.proofs.claims.combine_claim.Given as goal

abbrev pub invariant-loop-k : goal.invariant-loop-k
invariant-loop-k g l = l.combined.items
    ≡ combined_values g.EF.Field.ops l.ladder.alpha (take l.k (map (matrix_claim (λ domain. domain.log_size)) l.matrices))
