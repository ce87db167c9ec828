use Rattle.std.proofs.Common.{sym, ◌∙◌}
use Rattle.fri_commands.proofs.Lists.{each-none, each-some}
use Rattle.fri_commands.proofs.text.each_number.Goals as goal

pub returns-in_default : goal.returns-in_default
returns-in_default c =
    let e = each-none (λ x. x.now) c.args.most c.loop-text.values.items c.args.texts.now c.loop-text.text-index _ c.loop-text-test.true (sym c.number.ensures ∙ c.in_default.is) in
    cc

pub loop-text-preserved : goal.loop-text-preserved
loop-text-preserved c =
    let e = each-some (λ x. x.now) c.args.most c.loop-text.values.items c.args.texts.now c.loop-text.text-index _ c.in-Some.value c.loop-text-test.true (sym c.number.ensures ∙ c.in-Some.is) in
    cc (c.in_ok-push.ensures.items)
