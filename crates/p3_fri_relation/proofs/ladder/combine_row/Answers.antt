use Rattle.std.proofs.Common.{◌∙◌}
use Rattle.p3_fri_relation.proofs.PowerSums.{row_combined}
use Rattle.p3_fri_relation.proofs.ladder.combine_row.Goals as goal

pub returns : goal.returns
returns g c =
    let ladder = c.args.ladder.now in
    c.dot_row.ensures
    ∙ row_combined g.EF.Field.ops g.met.EF.Field.laws.ring ladder.alpha g.F.Field.ops
    g.EF.ExtensionField.lift ladder.powers.len c.as_slice-powers.result.now c.args.row.now
    (c.as_slice-powers.ensures.value ∙ ladder.are_powers) c.requires
