use Rattle.std.proofs.Common.{◌≡◌, ◌-◌, suc, sym, ap, ap₂, ◌∙◌, arith}
use Rattle.algebra.specs.Folds.{fold_value}
use Rattle.p3_fri_folding.specs.Rows.{StartsRow}
use Rattle.p3_fri_folding.proofs.folding.TwoAdicFriFoldingFriFoldingStrategy.fold_row.Goals as goal

pub returns : goal.returns
returns g c =
    let K = g.EF.Field.ops in
    let F = g.F.Field.ops in
    let w = g.F.TwoAdicField.root in
    let h = c.args.log_height in
    let i = c.args.index in
    let a = c.args.log_arity - 1 in
    let size : c.args.log_arity ≡ suc a = omega (arith, c.requires.positive) in
    let starts : StartsRow F w i h a c.half_inverse-half_inverse.result c.root_inverse-root_inverse.result = record {
      first_pair = c.half_inverse-half_inverse.ensures a size;
      inverse = ap (λ n. F.mul (w n) c.root_inverse-root_inverse.result) (sym size) ∙ c.root_inverse-root_inverse.ensures;
    } in
    c.fold_halves-fold.ensures.value i h a size c.requires.within_word
    (omega (arith, size, c.requires.within_max_height)) starts
    ∙ ap₂ (λ n x. fold_value K (λ k. g.EF.ExtensionField.lift (w k)) i h n x c.args.row.now) (sym size) c.new-challenges.ensures.beta
