use Rattle.std.proofs.Common.{arith}
use Rattle.p3_converse.proofs.Trees.{beta_count-large}
use Rattle.p3_converse.proofs.conditions.is_challenge_count.Goals as goal

pub returns-then-log_arity-ge64 : goal.returns-then-log_arity-ge64
returns-then-log_arity-ge64 c =
    (λ never. absurd (cc), λ e. absurd (omega (arith, e, beta_count-large c.args.log_arity c.args.has_input c.if-log_arity-ge64.true, c.ranges.count.fits)))
