use Rattle.std.proofs.Common.{◌≡◌, ◌+◌, ◌++◌}
use Rattle.p3_fri_relation.specs.Heights.{matrices_of, heights_below, heights_of}
use Rattle.p3_fri_relation.specs.Views.{claims_of}
use Rattle.p3_fri_verifier.proofs.claimed.claimed_heights.Given as goal

abbrev pub invariant-loop-size : goal.invariant-loop-size
invariant-loop-size g l =
    let ms = matrices_of (claims_of (λ domain. domain.log_size) l.claims) in
    l.heights.items ++ heights_below l.log_blowup ms (l.size + l.log_blowup) ≡ heights_of l.log_blowup ms
