use Rattle.algebra.proofs.RingLaws.{multiple-add}
use Rattle.p3_baby_bear.specs.BabyBear.{baby_bear}
use Rattle.p3_baby_bear.specs.BabyBearLaws.{baby_bear_laws}
use Rattle.p3_baby_bear.proofs.baby_bear4.arithmetic.four_products.Goals as goal

pub returns : goal.returns
returns c =
    simp (
      c.from_u64.ensures,
      multiple-add baby_bear baby_bear_laws.ring,
      c.product.ensures.value,
      c.product-2.ensures.value,
      c.product-3.ensures.value,
      c.product-4.ensures.value,
    )
