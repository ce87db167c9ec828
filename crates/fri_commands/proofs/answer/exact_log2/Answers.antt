use Rattle.std.proofs.Common.{arith, ◌≡◌, ◌+◌, ◌-◌, ◌∙◌}
use Rattle.std.proofs.lemmas.Nat.{one_shl}
use Rattle.fri_commands.specs.Steps.{exact_log2}
use Rattle.fri_commands.proofs.CommandLemmas.{exact_log2-next}
use Rattle.fri_commands.proofs.answer.exact_log2.Goals as goal

pub loop-log-init : goal.loop-log-init
unfolding exact_log2
loop-log-init c = let whole : c.args.most + 1 - 0 ≡ c.args.most + 1 = omega arith in rw whole

pub loop-log-preserved : goal.loop-log-preserved
loop-log-preserved c =
    let power = one_shl c.loop-log.log 64 (omega arith) in
    exact_log2-next c.args.most c.args.count c.loop-log.log c.loop-log-test.true (λ e. c.if-log-count.false (power ∙ e)) ∙ c.loop-log.invariant

pub returns-else-log-count : goal.returns-else-log-count
returns-else-log-count c =
    let power = one_shl c.loop-log.log 64 (omega arith) in
    let last : c.args.most + 1 - (c.loop-log.log + 1) ≡ 0 = omega arith in
    (rw last at (exact_log2-next c.args.most c.args.count c.loop-log.log c.loop-log-test.true (λ e. c.if-log-count.false (power ∙ e)))) ∙ c.loop-log.invariant
