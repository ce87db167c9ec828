use Rattle.std.proofs.Common.{◌^◌, ap, sym, ◌∙◌}
use Rattle.algebra.specs.Field.{pow}
use Rattle.algebra.proofs.Powers.{pow-one}
use Rattle.p3_fri_folding.proofs.challenges.Challenges.factor_of_round.Goals as goal

pub returns-in-0 : goal.returns-in-0
returns-in-0 g c =
    let K = g.EF.Field.ops in
    let beta = c.args.self.now.beta in
    c.args.self.now.first_is ∙ sym (pow-one K g.met.EF.Field.laws.ring beta)
    ∙ ap (λ k. pow K beta (2 ^ k)) (sym c.in-0.is)
