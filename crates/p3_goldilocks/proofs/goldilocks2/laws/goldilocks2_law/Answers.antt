use Rattle.std.proofs.Common.{zero, suc, refl, sym}
use Rattle.p3_binomial_extension.proofs.QuadraticProduct.{quadratic_remainder, quadratic_modulus_no_factors}
use Rattle.p3_goldilocks.specs.Goldilocks.{goldilocks, element}
use Rattle.p3_goldilocks.specs.GoldilocksLaws.{goldilocks_laws, zero_is}
use Rattle.p3_goldilocks.specs.Goldilocks2.{goldilocks2, quadratic_of}
use Rattle.p3_goldilocks.specs.Goldilocks2Laws.{quadratic_laws}
use Rattle.p3_goldilocks.proofs.goldilocks2.laws.goldilocks2_law.Goals as goal

pub returns-clause-sum : goal.returns-clause-sum
unfolding goldilocks2
returns-clause-sum c x y zero = refl
returns-clause-sum c x y (suc zero) = refl
returns-clause-sum c x y (suc (suc k)) = sym (goldilocks_laws.add_zero goldilocks.zero)

pub returns-clause-product : goal.returns-clause-product
unfolding goldilocks2
returns-clause-product c x y =
    quadratic_remainder goldilocks goldilocks_laws.ring (element 7) (quadratic_of x) (quadratic_of y)

pub returns-clause-no_factors : goal.returns-clause-no_factors
returns-clause-no_factors c =
    quadratic_modulus_no_factors goldilocks goldilocks_laws.ring
    (element 7) goldilocks_laws.one_not_zero quadratic_laws

pub returns-clause-lifted : goal.returns-clause-lifted
returns-clause-lifted c x = rw zero_is refl
