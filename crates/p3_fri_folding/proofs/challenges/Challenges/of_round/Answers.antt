use Rattle.std.proofs.Common.{◌≡◌, ◌^◌, ◌+◌, ◌-◌, ap, sym, ◌∙◌, arith}
use Rattle.std.proofs.lemmas.Nat.{pow-add}
use Rattle.algebra.specs.Field.{pow}
use Rattle.algebra.proofs.Powers.{pow-one, pow-mul}
use Rattle.p3_fri_folding.proofs.challenges.Challenges.of_round.Goals as goal

pub returns-in-0 : goal.returns-in-0
returns-in-0 g c =
    let K = g.EF.Field.ops in
    let beta = c.args.self.now.beta in
    sym (pow-one K g.met.EF.Field.laws.ring beta)
    ∙ ap (λ k. pow K beta (2 ^ k)) (sym c.in-0.is)

pub returns-in_default : goal.returns-in_default
returns-in_default g c =
    let K = g.EF.Field.ops in
    let beta = c.args.self.now.beta in
    let later = c.args.round - 2 in
    let round : later + 2 ≡ c.args.round = omega (arith, c.in_default) in
    c.exp_power_of_2.ensures
    ∙ ap (λ x. pow K x (2 ^ later)) (c.args.self.now.third_is (omega (arith, round, c.requires)))
    ∙ sym (pow-mul K g.met.EF.Field.laws.ring beta (2 ^ later) 4)
    ∙ ap (λ n. pow K beta n) (sym (pow-add 2 later 2) ∙ ap (λ k. 2 ^ k) round)
