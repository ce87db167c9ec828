use Rattle.std.proofs.Common.{◌++◌, map, ap, ◌∙◌}
use Rattle.std.proofs.lemmas.List.{take_all}
use Rattle.p3_fri_masks.proofs.Firsts.{scaled_more}
use Rattle.p3_fri_masks.proofs.extension.push_scaled.Goals as goal

pub loop-other-preserved : goal.loop-other-preserved
loop-other-preserved g c =
    let F = g.F.Field.ops in
    let factor = c.args.factor in
    let other = c.other-item.result in
    scaled_more (λ a. F.mul factor a) c.args.values.now.items c.args.others.now
    c.loop-other.other-index other c.times.result c.loop-other.values.items c.push.new.self.items
    c.loop-other-test.true c.other-item.is
    (c.times.ensures ∙ ap (λ x. F.mul other x) c.prepare-prepared.ensures
    ∙ g.met.F.Field.laws.ring.mul_comm other factor)
    c.loop-other.invariant c.in_ok-push.ensures.items

pub returns : goal.returns
returns g c =
    let factor = c.args.factor in
    c.loop-other.invariant
    ∙ ap (λ xs. c.args.values.now.items ++ map (λ a. g.F.Field.ops.mul factor a) xs)
    (take_all c.loop-other.other-index c.args.others.now c.loop-other-test.false)
