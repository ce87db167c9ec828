use Rattle.std.proofs.Common.{◌≡◌, ◌+◌, ◌++◌}
use Rattle.p3_fri_relation.specs.Heights.{matrices_of, heights_below}
use Rattle.p3_fri_relation.specs.Views.{claims_of}
use Rattle.p3_fri_inputs.proofs.heights.falling_heights.Given as goal

abbrev pub invariant-loop-h : goal.invariant-loop-h
invariant-loop-h g l =
    let ms = matrices_of (claims_of (λ domain. domain.log_size) l.claims) in
    heights_below l.log_blowup ms (l.log_global_max_height + 1)
    ≡ l.heights.items ++ heights_below l.log_blowup ms l.h
