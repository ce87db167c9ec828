use Rattle.std.proofs.Common.{get_or, map, take, ◌≡◌}
use Rattle.p3_fri_inputs.proofs.inputs.list_sums.Given as goal

abbrev pub invariant-loop-k : goal.invariant-loop-k
invariant-loop-k g l = l.openings.items
    ≡ map (λ h. (h, get_or l.sums h g.EF.Field.ops.zero)) (take l.k l.heights)
