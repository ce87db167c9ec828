use Rattle.std.proofs.Common.{◌≡◌, ◌+◌, ◌<◌, All, take, drop}
use Rattle.p3_converse.specs.Branches.{log_sum}
use Rattle.p3_converse.proofs.conditions.log_arities_fit.Given as goal

abbrev pub invariant-loop-round : goal.invariant-loop-round
invariant-loop-round l = record {
  positive : All (λ r. 0 < r.0) (take l.round-index l.rounds);
  sum : l.sum + log_sum (drop l.round-index l.rounds) ≡ log_sum l.rounds;
  small : l.sum < 64;
}
