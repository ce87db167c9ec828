use Rattle.algebra.proofs.BinaryFolds.{fold_of_binary_folds}
use Rattle.algebra.proofs.Points.{lifted_roots}
use Rattle.p3_fri_folding.proofs.laws.binary_folds_law.Goals as goal

pub returns : goal.returns
returns g c =
    let K = g.EF.Field.ops in
    let w = g.F.TwoAdicField.root in
    let lift = g.EF.ExtensionField.lift in
    let roots = lifted_roots g.F.Field.ops K lift g.met.F.Field.laws g.met.EF.Field.laws
    g.met.EF.ExtensionField.lift_law g.F.TwoAdicField.TWO_ADICITY w
    g.met.F.TwoAdicField.roots_law in
    fold_of_binary_folds K g.met.EF.Field.laws g.F.TwoAdicField.TWO_ADICITY (λ k. lift (w k)) roots
    c.args.index c.args.log_height c.args.log_arity c.args.beta c.args.row.now
    c.requires.within_word c.requires.within_two_adicity c.requires.width
