use Rattle.p3_fri_relation.specs.Heights.{dimensions}
use Rattle.std.proofs.Common.{map, take, ◌≡◌}
use Rattle.p3_fri_relation.specs.Views.{matrix_claim}
use Rattle.p3_fri_inputs.proofs.opening.claimed_dimensions.Given as goal

abbrev pub invariant-loop-k : goal.invariant-loop-k
invariant-loop-k g l = l.dims.items
    ≡ map (dimensions l.log_blowup) (take l.k (map (matrix_claim (λ domain. domain.log_size)) l.matrices))
