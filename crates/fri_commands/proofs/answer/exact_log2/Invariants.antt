use Rattle.std.proofs.Common.{◌≡◌, ◌==◌, ◌^◌, ◌+◌, ◌-◌}
use Rattle.std.specs.Prelude.{find}
use Rattle.std.specs.List.{range_with_len}
use Rattle.fri_commands.specs.Steps.{exact_log2}
use Rattle.fri_commands.proofs.answer.exact_log2.Given as goal

abbrev pub invariant-loop-log : goal.invariant-loop-log
invariant-loop-log l = find (λ k. 2 ^ k == l.count) (range_with_len l.log (l.most + 1 - l.log)) ≡ exact_log2 l.most l.count
