use Rattle.std.proofs.Common.{◌<◌, length, refl, subst, arith, sym}
use Rattle.std.proofs.lemmas.List.{take_all}
use Rattle.p3_matrix.specs.declared.Dimensions.{Dimensions}
use Rattle.p3_mmcs.specs.Batch.{HavePowerHeights}
use Rattle.p3_mmcs.proofs.Heights.{heights_take_more}
use Rattle.p3_mmcs.proofs.conditions.have_power_heights.Goals as goal

pub loop-d-preserved : goal.loop-d-preserved
loop-d-preserved c =
    let i = c.loop-d.d-index in
    let dims = c.args.dimensions.now in
    let none : Dimensions = record { width = 0; height = 0 } in
    let below : i < length dims = omega arith in
    heights_take_more dims i none below (sym c.if-not-is_power_of_two.ensures) c.loop-d.invariant

pub returns : goal.returns
returns c =
    let dims = c.args.dimensions.now in (
      λ _. subst HavePowerHeights (take_all c.loop-d.d-index dims (omega arith)) c.loop-d.invariant,
      λ _. refl,
    )
