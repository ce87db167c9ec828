use Rattle.std.proofs.Common.{ℕ, ◌/◌, ◌%◌, ◌<◌, map, ap, ◌∙◌, arith}
use Rattle.p3_lanes.proofs.LaneLists.{map_twice, map_equal, each_map}
use Rattle.p3_lanes.proofs.Reductions.{by_halves, halves_fit, halves_are, sums_are, sums_fit}
use Rattle.p3_lanes.proofs.reduced_sum.Goals as goal

abbrev Below : ℕ → Type 0
Below n = n < 18446744073709551616

pub scaled-high-requires-clause-numbers : goal.scaled-high-requires-clause-numbers
scaled-high-requires-clause-numbers c =
    rw c.shifted.ensures (each_map Below (λ n. n < 4294967296) (λ n. n / 4294967296) (λ n l. omega (arith, l)) c.args.numbers c.requires)

pub overflow_add-high : goal.overflow_add-high
overflow_add-high c =
    sums_fit c.args.numbers c.shifted.result c.scaled-high.result c.low_parts.result 268435454 c.shifted.ensures c.scaled-high.ensures Below (λ n. n % 4294967296) c.low_parts.ensures (λ n l. omega (arith, l)) c.requires

pub reduced-requires : goal.reduced-requires
reduced-requires c =
    rw (sums_are c.args.numbers c.shifted.result c.scaled-high.result c.low_parts.result 268435454 c.shifted.ensures c.scaled-high.ensures (λ n. n % 4294967296) c.low_parts.ensures)
    (each_map Below (λ n. n < 4611686018427387904) by_halves halves_fit c.args.numbers c.requires)

pub returns : goal.returns
returns c =
    c.reduced.ensures
    ∙ ap (λ ns. map (λ n. n % 2013265921) ns)
    (sums_are c.args.numbers c.shifted.result c.scaled-high.result c.low_parts.result 268435454 c.shifted.ensures c.scaled-high.ensures (λ n. n % 4294967296) c.low_parts.ensures)
    ∙ map_twice (λ n. n % 2013265921) by_halves c.args.numbers
    ∙ map_equal Below (λ n. by_halves n % 2013265921) (λ n. n % 2013265921) (λ n l. halves_are n) c.args.numbers c.requires
