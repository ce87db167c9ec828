use Rattle.std.proofs.Common.{zero, suc, refl, sym}
use Rattle.algebra.proofs.QuarticProduct.{quartic_remainder, quartic_modulus_no_factors}
use Rattle.p3_baby_bear.specs.BabyBear.{baby_bear, element}
use Rattle.p3_baby_bear.specs.BabyBearLaws.{baby_bear_laws, zero_is}
use Rattle.p3_baby_bear.specs.BabyBear4.{baby_bear4, quartic_of}
use Rattle.p3_baby_bear.specs.BabyBear4Laws.{quartic_laws}
use Rattle.p3_baby_bear.proofs.baby_bear4.laws.baby_bear4_law.Goals as goal

pub returns-clause-sum : goal.returns-clause-sum
unfolding baby_bear4
returns-clause-sum c x y zero = refl
returns-clause-sum c x y (suc zero) = refl
returns-clause-sum c x y (suc (suc zero)) = refl
returns-clause-sum c x y (suc (suc (suc zero))) = refl
returns-clause-sum c x y (suc (suc (suc (suc k)))) = sym (baby_bear_laws.add_zero baby_bear.zero)

pub returns-clause-product : goal.returns-clause-product
unfolding baby_bear4
returns-clause-product c x y =
    quartic_remainder baby_bear baby_bear_laws.ring (element 11) (quartic_of x) (quartic_of y)

pub returns-clause-no_factors : goal.returns-clause-no_factors
returns-clause-no_factors c =
    quartic_modulus_no_factors baby_bear baby_bear_laws.ring
    (element 11) baby_bear_laws.one_not_zero quartic_laws

pub returns-clause-lifted : goal.returns-clause-lifted
returns-clause-lifted c x = rw zero_is refl
