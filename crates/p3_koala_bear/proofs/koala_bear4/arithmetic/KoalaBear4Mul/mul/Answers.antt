use Rattle.algebra.proofs.RingLaws.{multiple-add}
use Rattle.p3_koala_bear.specs.KoalaBear.{koala_bear}
use Rattle.p3_koala_bear.specs.KoalaBearLaws.{koala_bear_laws}
use Rattle.p3_koala_bear.specs.KoalaBear4.{koala_bear4}
use Rattle.p3_koala_bear.specs.KoalaBear4Laws.{same_coefficients}
use Rattle.p3_koala_bear.proofs.koala_bear4.arithmetic.KoalaBear4Mul.mul.Goals as goal

pub returns : goal.returns
unfolding koala_bear4
returns c =
    let sum = multiple-add koala_bear koala_bear_laws.ring in
    same_coefficients
    (simp (
      c.from_u64.ensures,
      sum,
      c.three_times.ensures.value,
      c.product.ensures.value,
      c.product-2.ensures.value,
      c.product-3.ensures.value,
      c.product-4.ensures.value,
    ))
    (simp (
      c.from_u64-2.ensures,
      sum,
      c.three_times-2.ensures.value,
      c.product-5.ensures.value,
      c.product-6.ensures.value,
      c.product-7.ensures.value,
      c.product-8.ensures.value,
    ))
    (simp (
      c.from_u64-3.ensures,
      sum,
      c.three_times-3.ensures.value,
      c.product-9.ensures.value,
      c.product-10.ensures.value,
      c.product-11.ensures.value,
      c.product-12.ensures.value,
    ))
    (simp (
      c.from_u64-4.ensures,
      sum,
      c.product-13.ensures.value,
      c.product-14.ensures.value,
      c.product-15.ensures.value,
      c.product-16.ensures.value,
    ))
