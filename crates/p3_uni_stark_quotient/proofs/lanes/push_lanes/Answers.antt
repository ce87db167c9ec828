use Rattle.std.proofs.Common.{[], ◌∷◌, ◌++◌, append_assoc, sym, ap, ap₂, ◌∙◌}
use Rattle.algebra.specs.Polynomial.{tabulate}
use Rattle.algebra.proofs.Lists.{tabulate-next}
use Rattle.p3_uni_stark_quotient.proofs.lanes.push_lanes.Goals as goal

pub loop-lane-preserved : goal.loop-lane-preserved
loop-lane-preserved g c =
    let start = c.args.elements.now.items in
    let at = g.P.PackedField.lane c.args.packed in
    let lane = c.loop-lane.lane in
    c.in_ok-push.ensures.items
    ∙ ap₂ (λ xs x. xs ++ x ∷ []) c.loop-lane.invariant c.lane.ensures
    ∙ append_assoc start (tabulate lane at) (at lane ∷ [])
    ∙ ap (λ xs. start ++ xs) (sym (tabulate-next lane at))
