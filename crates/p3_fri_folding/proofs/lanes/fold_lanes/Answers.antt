use Rattle.std.proofs.Common.{◌≡◌, ◌+◌, ◌-◌, ◌<◌, suc, map, subst, sym, ap, ap₂, ◌∙◌, arith}
use Rattle.algebra.specs.Folds.{fold_value}
use Rattle.p3_fri_folding.specs.Rows.{StartsRow}
use Rattle.p3_fri_folding.proofs.lanes.fold_lanes.Goals as goal

pub returns : goal.returns
returns g c l lane =
    let K = g.EF.Field.ops in
    let F = g.F.Field.ops in
    let w = g.F.TwoAdicField.root in
    let h = c.args.log_height in
    let i = c.args.first + l in
    let a = c.args.log_arity - 1 in
    let at : g.row.EF-ExtensionPacking.Denot → g.row.EF.Denot = λ x. g.EF.ExtensionPacking.PackedField.lane x l in
    let base : l < g.F.Packing.PackedField.WIDTH = subst (λ n. l < n) g.met.EF.ExtensionPacking.PackedExtension.same_width lane in
    let size : c.args.log_arity ≡ suc a = omega (arith, c.requires.positive) in
    let starts : StartsRow F w i h a (g.F.Packing.PackedField.lane c.half_inverses_from-half_inverses.result l) c.root_inverse-root_inverse.result = record {
      first_pair = c.half_inverses_from-half_inverses.ensures l a base size;
      inverse = ap (λ n. F.mul (w n) c.root_inverse-root_inverse.result) (sym size) ∙ c.root_inverse-root_inverse.ensures;
    } in
    c.fold_halves_by_lanes-fold.ensures.value l i h a lane size (omega (arith, lane, c.requires.within_word))
    (omega (arith, size, c.requires.within_two_adicity)) starts
    ∙ ap₂ (λ n x. fold_value K (λ k. g.EF.ExtensionField.lift (w k)) i h n x (map at c.args.values.now)) (sym size) c.new-challenges.ensures.beta
