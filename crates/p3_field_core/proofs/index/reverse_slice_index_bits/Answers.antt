-- Each pair changes places once, at the lesser of its indices, and `j` is `i` with its digits
-- reversed.
use Rattle.std.proofs.Common.{◌≡◌, ◌+◌, ◌-◌, ◌/◌, ◌^◌, ◌<◌, ◌≤◌, length, arith, sym, ap, subst, ◌∙◌}
use Rattle.std.proofs.Common.{bit_xor}
use Rattle.std.specs.Int.Count.{count_trailing_zeros}
use Rattle.std.specs.List.{SwappedAt}
use Rattle.std.proofs.lemmas.Nat.{pow_pos}
use Rattle.algebra.specs.Digits.{rev}
use Rattle.algebra.proofs.Digits.{rev-lt, rev-of_zero}
use Rattle.p3_field_core.proofs.IndexSteps.{bit_xor-highest, shift_fits}
use Rattle.p3_field_core.proofs.IndexSwaps.{SwapsPairsBelow, swaps_all, swaps_first, swaps_unpaired}
use Rattle.p3_field_core.proofs.IndexSwaps.{swaps_pair}
use Rattle.p3_field_core.proofs.index.reverse_slice_index_bits.Goals as goal
use Rattle.p3_field_core.proofs.index.reverse_slice_index_bits.Goals.{then-i-j, else-i-j}

pub loop-i-init : goal.loop-i-init
loop-i-init g c k size = (swaps_first k c.args.vals.now (pow_pos k), sym (rev-of_zero k))

pub overflow_shr-j : goal.overflow_shr-j
overflow_shr-j g c =
    shift_fits (length c.args.vals.now) c.loop-i.i (omega arith) (omega arith)
    (omega arith) c.requires.power_of_two

pub swap-requires-clause-b_in_bounds : goal.swap-requires-clause-b_in_bounds
swap-requires-clause-b_in_bounds g c =
    let k = c.requires.power_of_two.0 in
    let size : length c.args.vals.now ≡ 2 ^ k = c.requires.power_of_two.1 in
    omega (
      arith,
      size,
      rev-lt k c.loop-i.i,
      bit_xor-highest (length c.args.vals.now) c.loop-i.i (omega arith) (omega arith)
          (omega arith) k c.loop-i.j size (c.loop-i.invariant k size).1,
    )

pub loop-i-preserved : goal.loop-i-preserved
loop-i-preserved g c k size =
    let xs = c.args.vals.now in
    let i = c.loop-i.i in
    let ys = c.loop-i.vals in
    let swaps : SwapsPairsBelow k xs i ys = (c.loop-i.invariant k size).0 in
    let within : i < 2 ^ k = omega (arith, size) in
    let partner : bit_xor c.loop-i.j (length xs - length xs / 2 ^ (count_trailing_zeros 64 i + 1))
    ≡ rev k i =
    bit_xor-highest (length xs) i (omega arith) (omega arith) (omega arith) k c.loop-i.j size
    (c.loop-i.invariant k size).1 in
    let next : i ≡ i + 1 - 1 = omega arith in (
      elim c.if-i-j.branch [
        | then-i-j w ↦
            let less : i < rev k i = omega (arith, partner, w.if-i-j.true) in
            let exchange : SwappedAt ys w.swap.new.self i (rev k i) =
            subst (λ j. SwappedAt ys w.swap.new.self i j) partner w.swap.ensures.by_index in
            rw w.vals-is (swaps_pair k xs i ys within swaps w.swap.new.self less exchange)
        | else-i-j w ↦
            let not_less : rev k i ≤ i = omega (arith, partner, w.if-i-j.false) in
            rw w.vals-is (swaps_unpaired k xs i ys within swaps not_less)
      ],
      partner ∙ ap (λ n. rev k n) next,
    )

pub returns : goal.returns
returns g c k size =
    let swaps = (c.loop-i.invariant k size).0 in
    let done : c.loop-i.i ≡ 2 ^ k = omega (arith, size, pow_pos k) in
    swaps_all k c.args.vals.now c.loop-i.vals size (omega (arith, size))
    (subst (λ n. SwapsPairsBelow k c.args.vals.now n c.loop-i.vals) done swaps)
