use Rattle.std.proofs.Common.{arith, ◌∙◌}
use Rattle.algebra.proofs.Lists.{length-tabulate}
use Rattle.p3_dft.proofs.Sizes.{power_within, extended_power_within}
use Rattle.fri_bench.proofs.stages.time_once.Goals as goal

pub coset_lde_batch-requires-clause-within_two_adicity :
    goal.coset_lde_batch-requires-clause-within_two_adicity
coset_lde_batch-requires-clause-within_two_adicity c =
    extended_power_within _ _ _ 27 c.in_ok-matrix.ensures.height
    (omega (arith, c.in_ok-matrix.ensures.low, c.if-added_bits-gt2.false))

pub bit_reverse_rows-reversed-requires : goal.bit_reverse_rows-reversed-requires
bit_reverse_rows-reversed-requires c =
    let known = c.in_ok-extended.ensures _ c.in_ok-matrix.ensures.height in
    record { power_of_two = (_, known.height ∙ length-tabulate _ _) }

pub dft_batch-requires-clause-within_two_adicity : goal.dft_batch-requires-clause-within_two_adicity
dft_batch-requires-clause-within_two_adicity c =
    power_within _ _ 27 c.in_ok-columns.ensures.height (omega (arith, c.in_ok-columns.ensures.low))
