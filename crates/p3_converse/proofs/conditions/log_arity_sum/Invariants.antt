use Rattle.std.proofs.Common.{◌≡◌, ◌+◌, drop}
use Rattle.p3_converse.specs.Branches.{log_sum}
use Rattle.p3_converse.proofs.conditions.log_arity_sum.Given as goal

abbrev pub invariant-loop-round : goal.invariant-loop-round
invariant-loop-round l = l.sum + log_sum (drop l.round-index l.rounds) ≡ log_sum l.rounds
