use Rattle.std.proofs.Common.{◌<◌, length, get_or, ap, ◌∙◌, arith, length-set}
use Rattle.p3_field_core.proofs.TermSums.{item}
use Rattle.p3_field_core.proofs.ColumnSums.{written}
use Rattle.p3_baby_bear.specs.declared.baby_bear4.BabyBear4.{BabyBear4}
use Rattle.p3_baby_bear.specs.BabyBear.{baby_bear}
use Rattle.p3_baby_bear.specs.BabyBear4.{baby_bear4, coefficients4}
use Rattle.p3_baby_bear.proofs.baby_bear4.column_sums.coefficients_at.Goals as goal

pub loop-i-preserved : goal.loop-i-preserved
loop-i-preserved c =
    let part = λ (x : BabyBear4). get_or (coefficients4 x) c.args.index baby_bear.zero in
    let weights = c.args.weights.now in
    let i = c.loop-i.i in
    let coefficients = c.loop-i.coefficients in
    let here : i < length coefficients = omega (arith, c.loop-i.invariant.long) in
    record {
      value = written (λ k. part (get_or weights k baby_bear4.zero)) coefficients i
          c.coefficient.result baby_bear.zero here
          (c.coefficient.ensures ∙ ap part
          (item weights i c.index-weights-i.result baby_bear4.zero (omega arith) c.index-weights-i.is))
          c.loop-i.invariant.value;
      long = length-set coefficients i c.coefficient.result ∙ c.loop-i.invariant.long;
    }
