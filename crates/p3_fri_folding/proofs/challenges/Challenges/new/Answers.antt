use Rattle.std.proofs.Common.{◌≡◌, ◌<◌, sym, ap, ◌∙◌, arith}
use Rattle.algebra.specs.Field.{pow}
use Rattle.algebra.proofs.Powers.{pow-two, pow-double}
use Rattle.p3_fri_folding.proofs.challenges.Challenges.new.Goals as goal
use Rattle.p3_fri_folding.proofs.challenges.Challenges.new.Goals.{then-rounds-gt1, else-rounds-gt1}
use Rattle.p3_fri_folding.proofs.challenges.Challenges.new.Goals.{then-rounds-gt2, else-rounds-gt2}

pub invariant_of-result : goal.invariant_of-result
invariant_of-result g c =
    let K = g.EF.Field.ops in
    let ring = g.met.EF.Field.laws.ring in
    let square : 1 < c.args.rounds → c.if-rounds-gt1.second ≡ pow K c.args.beta 2 =
    elim c.if-rounds-gt1.branch [
      | then-rounds-gt1 w ↦ λ l. w.second-is ∙ w.square-second.ensures ∙ sym (pow-two K ring c.args.beta)
      | else-rounds-gt1 w ↦ λ l. absurd (omega (arith, w.if-rounds-gt1.false, l))
    ] in
    let fourth : 2 < c.args.rounds → c.if-rounds-gt2.third ≡ pow K c.args.beta 4 =
    elim c.if-rounds-gt2.branch [
      | then-rounds-gt2 w ↦ λ l.
          w.third-is ∙ w.square-third.ensures
          ∙ ap (λ x. K.mul x x) (square (omega (arith, l)))
          ∙ sym (pow-double K ring c.args.beta 1)
      | else-rounds-gt2 w ↦ λ l. absurd (omega (arith, w.if-rounds-gt2.false, l))
    ] in
    record {
      first_is = c.prepare.ensures;
      factor_is = c.prepare-2.ensures;
      second_is = square;
      third_is = fourth;
    }
