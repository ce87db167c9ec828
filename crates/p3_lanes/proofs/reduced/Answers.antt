use Rattle.std.proofs.Common.{ℕ, ◌-◌, ◌*◌, ◌/◌, ◌%◌, ◌<◌, ◌≤◌, map, ap, ◌∙◌, arith}
use Rattle.p3_lanes.proofs.LaneLists.{map_twice, map_equal, each_map, each_with_map}
use Rattle.p3_lanes.proofs.Reductions.{estimate, estimate_fits, estimate_below, estimate_rest}
use Rattle.p3_lanes.proofs.Reductions.{rest_is, estimates_are, taken_are, rests_are}
use Rattle.p3_lanes.proofs.reduced.Goals as goal

abbrev Below : ℕ → Type 0
Below n = n < 4611686018427387904

pub scaled-requires-clause-numbers : goal.scaled-requires-clause-numbers
scaled-requires-clause-numbers c =
    rw c.shifted.ensures (each_map Below (λ n. n < 4294967296) (λ n. n / 1073741824) (λ n l. omega (arith, l)) c.args.numbers c.requires)

pub scaled-requires-2-clause-numbers : goal.scaled-requires-2-clause-numbers
scaled-requires-2-clause-numbers c =
    rw (estimates_are c.args.numbers c.shifted.result c.scaled.result c.shifted-quotient.result c.shifted.ensures c.scaled.ensures c.shifted-quotient.ensures)
    (each_map Below (λ n. n < 4294967296) estimate estimate_fits c.args.numbers c.requires)

pub overflow_sub-numbers : goal.overflow_sub-numbers
overflow_sub-numbers c =
    rw (taken_are c.args.numbers c.shifted.result c.scaled.result c.shifted-quotient.result c.shifted.ensures c.scaled.ensures c.shifted-quotient.ensures c.scaled-2.result c.scaled-2.ensures)
    (each_with_map Below (λ n m. m ≤ n) (λ n. estimate n * 2013265921) estimate_below c.args.numbers c.requires)

pub reduced_once-requires : goal.reduced_once-requires
reduced_once-requires c =
    rw (rests_are c.args.numbers c.shifted.result c.scaled.result c.shifted-quotient.result c.shifted.ensures c.scaled.ensures c.shifted-quotient.ensures c.scaled-2.result c.scaled-2.ensures)
    (each_map Below (λ n. n < 4026531842) (λ n. n - estimate n * 2013265921) estimate_rest c.args.numbers c.requires)

pub returns : goal.returns
returns c =
    c.reduced_once.ensures
    ∙ ap (λ ns. map (λ n. n % 2013265921) ns)
    (rests_are c.args.numbers c.shifted.result c.scaled.result c.shifted-quotient.result c.shifted.ensures c.scaled.ensures c.shifted-quotient.ensures c.scaled-2.result c.scaled-2.ensures)
    ∙ map_twice (λ n. n % 2013265921) (λ n. n - estimate n * 2013265921) c.args.numbers
    ∙ map_equal Below (λ n. (n - estimate n * 2013265921) % 2013265921) (λ n. n % 2013265921) (λ n l. rest_is n (estimate n) (estimate_below n l)) c.args.numbers c.requires
