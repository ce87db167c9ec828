use Rattle.std.proofs.Common.{◌<◌, ◌%◌, length, ap, ◌∙◌, arith}
use Rattle.std.proofs.lemmas.Nat.{one_shl}
use Rattle.algebra.proofs.Lists.{length-tabulate}
use Rattle.refused_calls.proofs.WholeRows.{whole, as_high}
use Rattle.refused_calls.proofs.matrices.matrix.Goals as goal

pub new-requires-clause-whole_rows : goal.new-requires-clause-whole_rows
new-requires-clause-whole_rows c =
    ap (λ n. n % c.args.width) c.in_ok-values.values.ok.0
    ∙ whole _ c.args.width c.requires.wide c.in_ok-values.values.items
    (ap length c.in_ok-values.ensures ∙ length-tabulate _ _)

pub returns-clause-height : goal.returns-clause-height
returns-clause-height c =
    let small : c.args.log_height < 64 = omega arith in
    let high = as_high _ c.args.width c.requires.wide c.in_ok-values.values.items
    (ap length c.in_ok-values.ensures ∙ length-tabulate _ _) in
    omega (arith, one_shl c.args.log_height 64 small, ap length c.new.ensures.rows, high)
