use Rattle.std.proofs.Common.{zero, suc, refl, sym}
use Rattle.algebra.proofs.QuarticProduct.{quartic_remainder, quartic_modulus_no_factors}
use Rattle.p3_koala_bear.specs.KoalaBear.{koala_bear, element}
use Rattle.p3_koala_bear.specs.KoalaBearLaws.{koala_bear_laws, zero_is}
use Rattle.p3_koala_bear.specs.KoalaBear4.{koala_bear4, quartic_of}
use Rattle.p3_koala_bear.specs.KoalaBear4Laws.{quartic_laws}
use Rattle.p3_koala_bear.proofs.koala_bear4.laws.koala_bear4_law.Goals as goal

pub returns-clause-sum : goal.returns-clause-sum
unfolding koala_bear4
returns-clause-sum c x y zero = refl
returns-clause-sum c x y (suc zero) = refl
returns-clause-sum c x y (suc (suc zero)) = refl
returns-clause-sum c x y (suc (suc (suc zero))) = refl
returns-clause-sum c x y (suc (suc (suc (suc k)))) = sym (koala_bear_laws.add_zero koala_bear.zero)

pub returns-clause-product : goal.returns-clause-product
unfolding koala_bear4
returns-clause-product c x y =
    quartic_remainder koala_bear koala_bear_laws.ring (element 3) (quartic_of x) (quartic_of y)

pub returns-clause-no_factors : goal.returns-clause-no_factors
returns-clause-no_factors c =
    quartic_modulus_no_factors koala_bear koala_bear_laws.ring
    (element 3) koala_bear_laws.one_not_zero quartic_laws

pub returns-clause-lifted : goal.returns-clause-lifted
returns-clause-lifted c x = rw zero_is refl
