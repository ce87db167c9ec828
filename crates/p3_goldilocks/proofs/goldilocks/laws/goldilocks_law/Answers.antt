use Rattle.std.proofs.Common.{◌^◌, subst, lit≤}
use Rattle.p3_goldilocks.specs.Goldilocks.{goldilocks, root}
use Rattle.p3_goldilocks.specs.declared.goldilocks.Goldilocks.{Goldilocks}
use Rattle.p3_goldilocks.specs.GoldilocksLaws.{goldilocks_laws, goldilocks_roots, order_is_prime}
use Rattle.p3_goldilocks.specs.GoldilocksLaws.{generator_power, root_first}
use Rattle.p3_field_core.specs.Order.{HasOrder}
use Rattle.p3_field_core.proofs.Orders.{root_order}
use Rattle.p3_goldilocks.proofs.goldilocks.laws.goldilocks_law.Goals as goal

pub returns-clause-prime : goal.returns-clause-prime
returns-clause-prime c = order_is_prime

pub returns-clause-generator_power : goal.returns-clause-generator_power
returns-clause-generator_power c = generator_power

pub returns-clause-root_order : goal.returns-clause-root_order
returns-clause-root_order c =
    subst (λ (x : Goldilocks). HasOrder goldilocks x (2 ^ 32)) root_first
    (root_order goldilocks goldilocks_laws 32 root goldilocks_roots 32 (lit≤ tt))
