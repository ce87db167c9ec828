use Rattle.std.proofs.Common.{◌+◌, ◌/◌, ◌%◌, ap₂, ◌∙◌, arith}
use Rattle.std.specs.Simd.Lanes.{zip2}
use Rattle.p3_lanes.specs.Halves.{totals}
use Rattle.p3_lanes.proofs.HalfLists.{halves_added, half_fits, half_within}
use Rattle.p3_lanes.proofs.halves.add_halves.Goals as goal

pub overflow_add-result : goal.overflow_add-result
overflow_add-result c =
    rw c.low_parts.ensures (half_fits (λ n. n % 4294967296) (λ n l. omega arith) c.args.sums.low c.args.numbers c.requires.room.0 c.requires.numbers)

pub overflow_add-result-2 : goal.overflow_add-result-2
overflow_add-result-2 c =
    rw c.shifted.ensures (half_fits (λ n. n / 4294967296) (λ n l. omega (arith, l)) c.args.sums.high c.args.numbers c.requires.room.1 c.requires.numbers)

pub returns-clause-value : goal.returns-clause-value
returns-clause-value c =
    ap₂ (λ ms ns. totals (zip2 (λ m n. m + n) c.args.sums.low ms) (zip2 (λ m n. m + n) c.args.sums.high ns))
    c.low_parts.ensures c.shifted.ensures
    ∙ halves_added c.args.sums.low c.args.sums.high c.args.numbers

pub returns-clause-within : goal.returns-clause-within
returns-clause-within c count t =
    rw (c.low_parts.ensures, c.shifted.ensures) (
      half_within (λ n. n % 4294967296) (λ n l. omega arith) count c.args.sums.low c.args.numbers t.0 c.requires.numbers,
      half_within (λ n. n / 4294967296) (λ n l. omega (arith, l)) count c.args.sums.high c.args.numbers t.1 c.requires.numbers,
    )
