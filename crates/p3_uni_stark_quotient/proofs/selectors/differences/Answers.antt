use Rattle.std.proofs.Common.{[], ◌∷◌, ◌++◌, sym, ap, ap₂, ◌∙◌}
use Rattle.std.proofs.lemmas.List.{map_more}
use Rattle.algebra.specs.Field.{sub}
use Rattle.p3_uni_stark_quotient.proofs.selectors.differences.Goals as goal

pub loop-value-preserved : goal.loop-value-preserved
loop-value-preserved g c =
    let F = g.F.Field.ops in
    c.in_ok-push.ensures.items
    ∙ ap₂ (λ xs x. xs ++ x ∷ []) c.loop-value.invariant
    (g.met.F.Field.sub_law c.value-item.result c.args.subtrahend c.sub.result c.sub.ensures
    ∙ ap (λ x. sub F x c.args.subtrahend) c.value-item.is)
    ∙ sym (map_more (λ x. sub F x c.args.subtrahend) c.args.values.now c.loop-value.value-index c.value-item.result
    c.loop-value-test.true)
