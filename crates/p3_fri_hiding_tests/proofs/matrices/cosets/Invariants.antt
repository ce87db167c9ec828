use Rattle.std.proofs.Common.{◌≤◌, All}
use Rattle.p3_fri_hiding_tests.proofs.matrices.cosets.Given as goal

abbrev pub invariant-loop-one : goal.invariant-loop-one
invariant-loop-one g l = All (λ d. d.log_size ≤ 8) l.domains.items
