use Rattle.std.proofs.Common.{◌^◌, subst, lit≤}
use Rattle.p3_koala_bear.specs.KoalaBear.{koala_bear, root}
use Rattle.p3_koala_bear.specs.declared.koala_bear.KoalaBear.{KoalaBear}
use Rattle.p3_koala_bear.specs.KoalaBearLaws.{koala_bear_laws, koala_bear_roots, order_is_prime}
use Rattle.p3_koala_bear.specs.KoalaBearLaws.{generator_power, root_first}
use Rattle.p3_field_core.specs.Order.{HasOrder}
use Rattle.p3_field_core.proofs.Orders.{root_order}
use Rattle.p3_koala_bear.proofs.koala_bear.laws.koala_bear_law.Goals as goal

pub returns-clause-prime : goal.returns-clause-prime
returns-clause-prime c = order_is_prime

pub returns-clause-generator_power : goal.returns-clause-generator_power
returns-clause-generator_power c = generator_power

pub returns-clause-root_order : goal.returns-clause-root_order
returns-clause-root_order c =
    subst (λ (x : KoalaBear). HasOrder koala_bear x (2 ^ 24)) root_first
    (root_order koala_bear koala_bear_laws 24 root koala_bear_roots 24 (lit≤ tt))
