use Rattle.std.proofs.Common.{◌≡◌, vec_len, take, All}
use Rattle.p3_fri_hiding_openings.proofs.append.wrong_count.Given as goal

-- so far each list is as long as expected
abbrev pub invariant-loop-point : goal.invariant-loop-point
invariant-loop-point g l = All (λ vector. vec_len vector ≡ l.expected) (take l.point l.random)
