use Rattle.std.proofs.Common.{◌^◌, subst, lit≤}
use Rattle.p3_baby_bear.specs.BabyBear.{baby_bear, root}
use Rattle.p3_baby_bear.specs.declared.baby_bear.BabyBear.{BabyBear}
use Rattle.p3_baby_bear.specs.BabyBearLaws.{baby_bear_laws, baby_bear_roots, order_is_prime}
use Rattle.p3_baby_bear.specs.BabyBearLaws.{generator_power, root_first}
use Rattle.p3_field_core.specs.Order.{HasOrder}
use Rattle.p3_field_core.proofs.Orders.{root_order}
use Rattle.p3_baby_bear.proofs.baby_bear.laws.baby_bear_law.Goals as goal

pub returns-clause-prime : goal.returns-clause-prime
returns-clause-prime c = order_is_prime

pub returns-clause-generator_power : goal.returns-clause-generator_power
returns-clause-generator_power c = generator_power

pub returns-clause-root_order : goal.returns-clause-root_order
returns-clause-root_order c =
    subst (λ (x : BabyBear). HasOrder baby_bear x (2 ^ 27)) root_first
    (root_order baby_bear baby_bear_laws 27 root baby_bear_roots 27 (lit≤ tt))
