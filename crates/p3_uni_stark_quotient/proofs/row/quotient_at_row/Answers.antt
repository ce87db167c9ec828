use Rattle.std.proofs.Common.{length, refl, ap, ◌∙◌, arith, slice_index_or}
use Rattle.std.proofs.lemmas.List.{length-map}
use Rattle.p3_air.specs.declared.air.Constraint.{Constraint}
use Rattle.p3_air.specs.Nodes.{values_in}
use Rattle.p3_air.specs.Shapes.{entries_of}
use Rattle.p3_air.proofs.Meanings.{length_meanings}
use Rattle.p3_uni_stark_identity.specs.Folding.{selected_by}
use Rattle.p3_uni_stark_quotient.proofs.Folded.{reversed_valued, row_value}
use Rattle.p3_uni_stark_quotient.proofs.row.quotient_at_row.Goals as goal

pub select_all-requires : goal.select_all-requires
select_all-requires g c =
    let air = c.args.air.now in
    let m = values_in g.F.Field.ops (λ x. x) g.F.Field.ops.zero (entries_of c.args.window.now) in
    record {
      nodes = reversed_valued (length air.nodes.items) (length c.as_slice-values.result.now)
          air.constraints.items c.args.reversed.now c.args.reversed.now c.requires.reversed refl
          (ap length (c.as_slice-values.ensures.value ∙ c.in_ok-evaluate_into.ensures)
          ∙ length_meanings m air.nodes.items)
          c.requires.well_formed.constraints;
    }

pub dot_row-sum-requires : goal.dot_row-sum-requires
dot_row-sum-requires g c =
    let long = ap length (c.as_slice-row.ensures.value ∙ c.in_ok-select_all.ensures)
    ∙ length-map c.args.reversed.now (λ (x : Constraint). selected_by g.F.Field.ops
    c.args.selectors.now x.rows
    (slice_index_or c.as_slice-values.result.now x.node g.F.Field.ops.zero)) in
    record { values = omega (arith, long, c.requires.powers) }

pub returns : goal.returns
returns g c h x n alpha powers at off there first last =
    row_value g.F.Field.ops g.met.F.Field.laws g.EF.Field.ops g.met.EF.Field.laws
    g.EF.ExtensionField.lift g.met.EF.ExtensionField.lift_law h x n off there first last
    c.args.selectors.now at c.args.air.now alpha (entries_of c.args.window.now)
    c.args.reversed.now c.as_slice-values.result.now c.as_slice-row.result.now c.args.powers.now
    c.requires.reversed (c.as_slice-values.ensures.value ∙ c.in_ok-evaluate_into.ensures)
    (c.as_slice-row.ensures.value ∙ c.in_ok-select_all.ensures) powers c.dot_row-sum.result
    c.scale-value.result c.dot_row-sum.ensures c.scale-value.ensures
