use Rattle.std.proofs.Common.{map, take, ◌≡◌}
use Rattle.p3_fri_relation.specs.Views.{matrix_claim}
use Rattle.p3_fri_relation.specs.Heights.{opened_index}
use Rattle.p3_fri_inputs.proofs.opening.opened_indices.Given as goal

abbrev pub invariant-loop-j : goal.invariant-loop-j
invariant-loop-j g l = l.opened.items
    ≡ map (opened_index l.log_blowup l.log_global_max_height (map (matrix_claim (λ domain. domain.log_size)) l.matrices))
    (take l.j l.indices)
