use Rattle.std.proofs.Common.{[], ◌∷◌, ◌++◌, sym, ap₂, ◌∙◌}
use Rattle.algebra.proofs.Lists.{tabulate-next}
use Rattle.p3_uni_stark_quotient.proofs.lanes.reset.Goals as goal

pub loop-preserved : goal.loop-preserved
loop-preserved g c =
    c.in_ok-push.ensures.items
    ∙ ap₂ (λ xs x. xs ++ x ∷ []) c.loop.invariant
    (c.ZERO.ensures ∙ g.met.EF.Field.zero_law)
    ∙ sym (tabulate-next c.loop.counter (λ _. g.EF.Field.ops.zero))
