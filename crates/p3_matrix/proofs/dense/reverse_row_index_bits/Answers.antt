-- Each pair of rows changes places once, at the lesser of its indices, and `j` is `i` with its
-- digits reversed.
use Rattle.std.proofs.Common.{◌≡◌, ◌+◌, ◌-◌, ◌/◌, ◌^◌, ◌<◌, ◌≤◌, length, arith, sym, ap, subst, ◌∙◌}
use Rattle.std.proofs.Common.{bit_xor}
use Rattle.std.specs.Int.Count.{count_trailing_zeros}
use Rattle.std.specs.List.{SwappedAt}
use Rattle.std.proofs.lemmas.Nat.{pow_pos}
use Rattle.algebra.specs.Digits.{rev}
use Rattle.algebra.proofs.Digits.{rev-lt, rev-of_zero}
use Rattle.p3_field_core.proofs.IndexSteps.{bit_xor-highest, shift_fits}
use Rattle.p3_field_core.proofs.IndexSwaps.{SwapsPairsBelow, swaps_all, swaps_first}
use Rattle.p3_field_core.proofs.IndexSwaps.{swaps_unpaired, swaps_pair}
use Rattle.p3_matrix.specs.Rows.{rows_of}
use Rattle.p3_matrix.proofs.Rows.{length-rows_of}
use Rattle.p3_matrix.proofs.dense.reverse_row_index_bits.Goals as goal
use Rattle.p3_matrix.proofs.dense.reverse_row_index_bits.Goals.{then-i-j, else-i-j}

pub loop-i-init : goal.loop-i-init
loop-i-init g c k size =
    (swaps_first k (rows_of c.args.width c.args.values.now) (pow_pos k), sym (rev-of_zero k))

pub overflow_shr-j : goal.overflow_shr-j
overflow_shr-j g c =
    let height = length c.args.values.now / c.args.width in
    shift_fits height c.loop-i.i (omega arith) (omega arith) (omega arith) c.requires.power_of_two

pub swap_rows-requires-clause-below_height : goal.swap_rows-requires-clause-below_height
swap_rows-requires-clause-below_height g c =
    let height = length c.args.values.now / c.args.width in
    let i = c.loop-i.i in
    let k = c.requires.power_of_two.0 in
    let size : height ≡ 2 ^ k = c.requires.power_of_two.1 in
    let same : length c.loop-i.values / c.args.width ≡ height =
    ap (λ n. n / c.args.width) c.loop-i.auto.values in
    let reversed = bit_xor-highest height i (omega arith) (omega arith) (omega arith) k c.loop-i.j
    size (c.loop-i.invariant k size).1 in
    omega (arith, same, size, rev-lt k i, reversed)

pub loop-i-preserved : goal.loop-i-preserved
loop-i-preserved g c k size =
    let height = length c.args.values.now / c.args.width in
    let rows = rows_of c.args.width c.args.values.now in
    let now = rows_of c.args.width c.loop-i.values in
    let i = c.loop-i.i in
    let here = c.loop-i.invariant k size in
    let within : i < 2 ^ k = omega (arith, size) in
    let partner : bit_xor c.loop-i.j (height - height / 2 ^ (count_trailing_zeros 64 i + 1)) ≡ rev k i =
    bit_xor-highest height i (omega arith) (omega arith) (omega arith) k c.loop-i.j size here.1 in
    let next : i ≡ i + 1 - 1 = omega arith in (
      elim c.if-i-j.branch [
        | then-i-j w ↦
            let made = rows_of c.args.width w.swap_rows.new.values in
            let less : i < rev k i = omega (arith, partner, w.if-i-j.true) in
            let exchange : SwappedAt now made i (rev k i) =
            subst (λ j. SwappedAt now made i j) partner w.swap_rows.ensures in
            rw w.values-is (swaps_pair k rows i now within here.0 made less exchange)
        | else-i-j w ↦
            let not_less : rev k i ≤ i = omega (arith, partner, w.if-i-j.false) in
            rw w.values-is (swaps_unpaired k rows i now within here.0 not_less)
      ],
      partner ∙ ap (λ n. rev k n) next,
    )

pub returns : goal.returns
returns g c k size =
    let w = c.args.width in
    let rows = rows_of w c.args.values.now in
    let now = rows_of w c.loop-i.values in
    let same : length c.loop-i.values / w ≡ length c.args.values.now / w =
    ap (λ n. n / w) c.loop-i.auto.values in
    let done : c.loop-i.i ≡ 2 ^ k = omega (arith, size, pow_pos k) in
    swaps_all k rows now (length-rows_of w c.args.values.now ∙ size)
    (length-rows_of w c.loop-i.values ∙ same ∙ size)
    (subst (λ n. SwapsPairsBelow k rows n now) done (c.loop-i.invariant k size).0)
