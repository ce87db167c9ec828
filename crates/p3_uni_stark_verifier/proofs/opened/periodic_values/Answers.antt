use Rattle.std.proofs.Common.{◌^◌, ℕ, All, subst}
use Rattle.std.specs.List.{AllZip}
use Rattle.p3_periodic.specs.Columns.{HasPeriod}
use Rattle.p3_periodic.specs.Values.{IsValueAt}
use Rattle.p3_uni_stark_verifier.proofs.opened.periodic_values.Goals as goal

pub returns-in-Ok-clause-periods : goal.returns-in-Ok-clause-periods
returns-in-Ok-clause-periods g c _ =
    subst (λ (k : ℕ). All (HasPeriod (2 ^ k)) c.args.columns.now) c.subgroup-domain.ensures.size
    c.in-Ok.ensures.exactly

pub returns-in-Ok-clause-values : goal.returns-in-Ok-clause-values
returns-in-Ok-clause-values g c =
    let lift = g.EF.ExtensionField.lift in
    subst (λ (k : ℕ). AllZip (IsValueAt g.EF.Field.ops (λ j. lift (g.F.TwoAdicField.root j)) k
    c.args.point lift) c.args.columns.now c.in-Ok.values.items) c.subgroup-domain.ensures.size
    c.in-Ok.ensures.values
