use Rattle.std.proofs.Common.{◌-◌, ap, sym, ◌∙◌, arith}
use Rattle.algebra.specs.Field.{pow}
use Rattle.algebra.proofs.Powers.{pow-zero}
use Rattle.p3_fri_relation.proofs.PowerSums.{power_after}
use Rattle.p3_fri_relation.proofs.ladder.Ladder.step.Goals as goal

pub returns-then-width-eq0 : goal.returns-then-width-eq0
returns-then-width-eq0 g c =
    let K = g.EF.Field.ops in
    let alpha = c.args.self.now.alpha in
    c.ONE.ensures ∙ g.met.EF.Field.one_law ∙ sym (pow-zero K alpha)
    ∙ ap (λ n. pow K alpha n) (omega arith)

pub returns-else-width-eq0 : goal.returns-else-width-eq0
returns-else-width-eq0 g c =
    let K = g.EF.Field.ops in
    let field = g.met.EF.Field in
    let ladder = c.args.self.now in
    let p = c.index.result.now in
    field.mul_law p ladder.alpha c.mul.result c.mul.ensures
    ∙ power_after K field.laws.ring ladder.alpha _ (c.args.width - 1) ladder.powers.items p
    ladder.are_powers (omega arith) c.index.ensures
    ∙ ap (λ n. pow K ladder.alpha n) (omega arith)
