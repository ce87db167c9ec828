use Rattle.std.proofs.Common.{◌≡◌, ◌+◌, ◌/◌, inl, inr, refl, ap, ◌∙◌, arith}
use Rattle.p3_goldilocks.specs.Goldilocks.{element}
use Rattle.p3_goldilocks.specs.GoldilocksLaws.{half_is}
use Rattle.p3_goldilocks.proofs.goldilocks.field.GoldilocksField.halve.Goals as goal
use Rattle.p3_goldilocks.proofs.goldilocks.field.GoldilocksField.halve.Goals.{then-self-eq0}
use Rattle.p3_goldilocks.proofs.goldilocks.field.GoldilocksField.halve.Goals.{else-self-eq0}

pub returns : goal.returns
returns c =
    let self = c.args.self in
    let n = self.value in
    let more = self.value + 18446744069414584321 in
    elim c.if-self-eq0.branch [
      | then-self-eq0 w ↦ half_is self c.from_number.result n
          (c.from_number.ensures ∙ ap element w.from_number-is) (omega (arith, w.if-self-eq0.true)) (inl refl)
      | else-self-eq0 w ↦ half_is self c.from_number.result more
          (c.from_number.ensures ∙ ap element (w.from_number-is
          ∙ (let o : n / 2 + 9223372034707292161 ≡ more / 2 = omega (arith, w.if-self-eq0.false) in o)))
          (omega (arith, w.if-self-eq0.false)) (inr refl)
    ]
