use Rattle.std.proofs.Common.{ap, sym, ◌∙◌}
use Rattle.p3_goldilocks.specs.Goldilocks.{goldilocks}
use Rattle.p3_goldilocks.specs.Goldilocks2.{goldilocks2}
use Rattle.p3_goldilocks.specs.Goldilocks2Laws.{same_coefficients}
use Rattle.p3_goldilocks.proofs.QuadraticSteps.{norm_not_zero}
use Rattle.p3_goldilocks.proofs.goldilocks2.field.Goldilocks2Field.inverse.Goals as goal

pub inverse-scale-requires : goal.inverse-scale-requires
inverse-scale-requires c = record {
  nonzero = λ e. norm_not_zero c.args.self c.requires.nonzero (sym c.norm_of.ensures ∙ e);
}

pub returns : goal.returns
unfolding goldilocks2
returns c =
    let scale = c.inverse-scale.ensures ∙ ap goldilocks.inv c.norm_of.ensures in
    same_coefficients
    (c.mul.ensures ∙ ap (λ i. goldilocks.mul c.args.self.constant i) scale)
    (c.neg.ensures ∙ ap goldilocks.neg
    (c.mul-2.ensures ∙ ap (λ i. goldilocks.mul c.args.self.linear i) scale))
