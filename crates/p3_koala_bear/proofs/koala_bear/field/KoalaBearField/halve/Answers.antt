use Rattle.std.proofs.Common.{inl, inr, arith}
use Rattle.p3_koala_bear.specs.KoalaBearLaws.{half_is}
use Rattle.p3_koala_bear.proofs.koala_bear.field.KoalaBearField.halve.Goals as goal
use Rattle.p3_koala_bear.proofs.koala_bear.field.KoalaBearField.halve.Goals.{then-self-eq0}
use Rattle.p3_koala_bear.proofs.koala_bear.field.KoalaBearField.halve.Goals.{else-self-eq0}

pub returns : goal.returns
returns c =
    let self = c.args.self in
    let even = c.if-self-eq0.even in
    elim c.if-self-eq0.branch [
      | then-self-eq0 w ↦ half_is self c.from_number.result even c.from_number.ensures
          (omega (arith, w.even-is, w.if-self-eq0.true)) (inl w.even-is)
      | else-self-eq0 w ↦ half_is self c.from_number.result even c.from_number.ensures
          (omega (arith, w.even-is, w.if-self-eq0.false)) (inr w.even-is)
    ]
