use Rattle.std.proofs.Common.{◌≢◌, All, length}
use Rattle.p3_fri_two_adic_tests.proofs.numbers.points_of.Given as goal

abbrev pub invariant-loop-numbers : goal.invariant-loop-numbers
invariant-loop-numbers g l = All (λ list. length list.items ≢ 0) l.lists.items
