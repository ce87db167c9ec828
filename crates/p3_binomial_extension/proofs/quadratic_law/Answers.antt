use Rattle.p3_binomial_extension.proofs.QuadraticField.{quadratic_field}
use Rattle.p3_binomial_extension.proofs.QuadraticProduct.{quadratic_remainder}
use Rattle.p3_binomial_extension.proofs.QuadraticProduct.{quadratic_modulus_no_factors}
use Rattle.p3_binomial_extension.proofs.quadratic_law.Goals as goal

pub returns-clause-field : goal.returns-clause-field
returns-clause-field g c F L w h = quadratic_field F L w h

pub returns-clause-product : goal.returns-clause-product
returns-clause-product g c F L w a b = quadratic_remainder F L.ring w a b

pub returns-clause-no_factors : goal.returns-clause-no_factors
returns-clause-no_factors g c F L w h =
    quadratic_modulus_no_factors F L.ring w L.one_not_zero (quadratic_field F L w h)
