use Rattle.std.proofs.Common.{◌<◌, ℕ, [], ◌∷◌, ◌++◌, length, append_assoc, sym, ap, ap₂, ◌∙◌, arith, slice_index_or}
use Rattle.std.proofs.lemmas.List.{get_or_read}
use Rattle.algebra.specs.Polynomial.{tabulate}
use Rattle.algebra.proofs.Lists.{tabulate-next}
use Rattle.p3_uni_stark_quotient.proofs.lanes.push_scaled.Goals as goal

pub loop-lane-preserved : goal.loop-lane-preserved
loop-lane-preserved g c =
    let K = g.EF.Field.ops in
    let lift = g.EF.ExtensionField.lift in
    let start = c.args.values.now.items in
    let sums = c.args.sums.now in
    let lane = c.loop-lane.lane in
    let test = c.loop-lane-test.true in
    let scaled : ℕ → g.row.EF.Denot = λ k. K.mul (slice_index_or sums k K.zero)
    (lift (g.P.PackedField.lane c.args.inv_vanishing k)) in
    let within : lane < length sums =
    omega (arith, test, c.WIDTH-lane-end.ensures, c.requires) in
    c.in_ok-push.ensures.items
    ∙ ap₂ (λ xs x. xs ++ x ∷ []) c.loop-lane.invariant
    (c.scale.ensures ∙ ap₂ (λ x y. K.mul x (lift y))
    (get_or_read sums lane c.index-sums-lane.result within c.index-sums-lane.is K.zero)
    c.lane.ensures)
    ∙ append_assoc start (tabulate lane scaled) (scaled lane ∷ [])
    ∙ ap (λ xs. start ++ xs) (sym (tabulate-next lane scaled))
