use Rattle.std.proofs.Common.{arith}
use Rattle.p3_dft.proofs.Sizes.{power_within, extended_power_within}
use Rattle.p3_dft_tests.proofs.transform.values_agree.Goals as goal

pub dft_batch-requires-clause-within_two_adicity : goal.dft_batch-requires-clause-within_two_adicity
dft_batch-requires-clause-within_two_adicity g c =
    power_within _ c.args.log g.F.TwoAdicField.TWO_ADICITY c.matrix-copy.ensures.height (omega (arith, c.requires.within_two_adicity))

pub coset_dft_batch-requires-clause-within_two_adicity : goal.coset_dft_batch-requires-clause-within_two_adicity
coset_dft_batch-requires-clause-within_two_adicity g c =
    power_within _ c.args.log g.F.TwoAdicField.TWO_ADICITY c.matrix-other.ensures.height (omega (arith, c.requires.within_two_adicity))

pub coset_lde_batch-requires-clause-within_two_adicity : goal.coset_lde_batch-requires-clause-within_two_adicity
coset_lde_batch-requires-clause-within_two_adicity g c =
    extended_power_within _ c.args.log 2 g.F.TwoAdicField.TWO_ADICITY c.values_by_horner-values.ensures.height c.requires.within_two_adicity

pub coset_idft_batch-requires-clause-within_two_adicity : goal.coset_idft_batch-requires-clause-within_two_adicity
coset_idft_batch-requires-clause-within_two_adicity g c =
    power_within _ c.args.log g.F.TwoAdicField.TWO_ADICITY c.values_by_horner-coset_values.ensures.height (omega (arith, c.requires.within_two_adicity))
