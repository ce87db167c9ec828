use Rattle.std.proofs.Common.{ℕ, ◌+◌, ◌*◌, ◌%◌, ◌<◌, List, map, Fits, w64, ap, ap₂, ◌∙◌, arith}
use Rattle.std.specs.Simd.Lanes.{zip2, Each1}
use Rattle.std.proofs.lemmas.Simd.{Each1-weaker, Each2-of}
use Rattle.std.proofs.Math.Facts.{Fits-of_lt}
use Rattle.p3_lanes.proofs.LaneLists.{each_map, each_zip2, map_twice}
use Rattle.p3_lanes.proofs.HalfLists.{Within, halves_leave}
use Rattle.p3_lanes.proofs.halves.reduced_halves.Goals as goal

fits : (ns : List ℕ) → Each1 (Within 4294967296) ns → Each1 (λ n. n < 18446744073709551616) ns
fits ns t = Each1-weaker (Within 4294967296) (λ n. n < 18446744073709551616) (λ n l. omega (arith, l)) ns t

-- what is left of the high halves, times what `2^32` leaves
high_below : (ns : List ℕ) → Each1 (Within 4294967296) ns
    → Each1 (λ n. n < 576460752303423488) (map (λ n. n % 2013265921 * 268435454) ns)
high_below ns t = each_map (Within 4294967296) (λ n. n < 576460752303423488) (λ n. n % 2013265921 * 268435454) (λ n l. omega arith) ns t

low_below : (ns : List ℕ) → Each1 (Within 4294967296) ns
    → Each1 (λ n. n < 2013265921) (map (λ n. n % 2013265921) ns)
low_below ns t = each_map (Within 4294967296) (λ n. n < 2013265921) (λ n. n % 2013265921) (λ n l. omega arith) ns t

pub reduced_sum-requires : goal.reduced_sum-requires
reduced_sum-requires c = fits c.args.sums.high c.requires.1

pub reduced_sum-requires-2 : goal.reduced_sum-requires-2
reduced_sum-requires-2 c = fits c.args.sums.low c.requires.0

pub scaled-high-requires-clause-numbers : goal.scaled-high-requires-clause-numbers
scaled-high-requires-clause-numbers c =
    rw c.reduced_sum.ensures (each_map (Within 4294967296) (λ n. n < 4294967296) (λ n. n % 2013265921) (λ n l. omega arith) c.args.sums.high c.requires.1)

pub overflow_add-high : goal.overflow_add-high
overflow_add-high c =
    rw (c.scaled-high.ensures ∙ ap (λ ns. map (λ n. n * 268435454) ns) c.reduced_sum.ensures ∙ map_twice (λ n. n * 268435454) (λ n. n % 2013265921) c.args.sums.high, c.reduced_sum-2.ensures)
    (Each2-of (λ n. n < 576460752303423488) (λ n. n < 2013265921) (λ m n. Fits w64 (m + n)) (λ m n l k. Fits-of_lt {w = w64} {n = m + n} (omega (arith, l, k)))
    (map (λ n. n % 2013265921 * 268435454) c.args.sums.high) (map (λ n. n % 2013265921) c.args.sums.low) (high_below c.args.sums.high c.requires.1) (low_below c.args.sums.low c.requires.0))

pub reduced-requires : goal.reduced-requires
reduced-requires c =
    rw (c.scaled-high.ensures ∙ ap (λ ns. map (λ n. n * 268435454) ns) c.reduced_sum.ensures ∙ map_twice (λ n. n * 268435454) (λ n. n % 2013265921) c.args.sums.high, c.reduced_sum-2.ensures)
    (each_zip2 (λ n. n < 576460752303423488) (λ n. n < 2013265921) (λ n. n < 4611686018427387904) (λ m n. m + n) (λ m n l k. omega (arith, l, k))
    (map (λ n. n % 2013265921 * 268435454) c.args.sums.high) (map (λ n. n % 2013265921) c.args.sums.low) (high_below c.args.sums.high c.requires.1) (low_below c.args.sums.low c.requires.0))

pub returns : goal.returns
returns c =
    c.reduced.ensures
    ∙ ap₂ (λ hs ls. map (λ n. n % 2013265921) (zip2 (λ m n. m + n) hs ls))
    (c.scaled-high.ensures ∙ ap (λ ns. map (λ n. n * 268435454) ns) c.reduced_sum.ensures ∙ map_twice (λ n. n * 268435454) (λ n. n % 2013265921) c.args.sums.high)
    c.reduced_sum-2.ensures
    ∙ halves_leave c.args.sums.low c.args.sums.high
