use Rattle.std.proofs.Common.{◌≡◌, ap, ◌∙◌, length}
use Rattle.p3_air.specs.Nodes.{meanings, values_in}
use Rattle.p3_air.specs.Shapes.{entries_of}
use Rattle.p3_air.proofs.Meanings.{length_meanings, nodes_valued}
use Rattle.p3_uni_stark_identity.proofs.Sums.{fold_agrees}
use Rattle.p3_uni_stark_identity.proofs.identity.folded_constraints.Goals as goal

pub fold_constraints-sum-requires : goal.fold_constraints-sum-requires
fold_constraints-sum-requires g c =
    let air = c.args.air.now in
    let m = values_in g.EF.Field.ops g.EF.ExtensionField.lift g.F.Field.ops.zero
    (entries_of c.args.window.now) in
    record {
      nodes = nodes_valued c.as_slice-2.result.now c.as_slice.result.now air.constraints.items
          (length air.nodes.items)
          (ap length (c.as_slice-2.ensures.value ∙ c.in_ok-values.ensures)
          ∙ length_meanings m air.nodes.items)
          c.as_slice.ensures.value c.requires.well_formed.constraints;
    }

pub returns : goal.returns
returns g c h n z at =
    c.fold_constraints-sum.ensures
    ∙ fold_agrees g.EF.Field.ops g.met.EF.Field.laws g.EF.ExtensionField.lift g.F.Field.ops.zero
    c.args.air.now h n (entries_of c.args.window.now) z c.args.selectors.now at
    c.as_slice-2.result.now c.as_slice.result.now c.args.alpha
    (c.as_slice-2.ensures.value ∙ c.in_ok-values.ensures) c.as_slice.ensures.value
