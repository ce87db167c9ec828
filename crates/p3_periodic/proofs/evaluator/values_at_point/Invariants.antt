use Rattle.std.proofs.Common.{take}
use Rattle.std.specs.List.{AllZip}
use Rattle.p3_periodic.specs.Values.{IsValueAt}
use Rattle.p3_periodic.proofs.evaluator.values_at_point.Given as goal

abbrev pub invariant-loop-i : goal.invariant-loop-i
invariant-loop-i g l =
    let lift = g.EF.ExtensionField.lift in
    AllZip (IsValueAt g.EF.Field.ops (λ k. lift (g.F.TwoAdicField.root k)) l.log_rows l.point lift)
    (take l.i l.columns) l.values.items
