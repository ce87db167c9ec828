use Rattle.std.proofs.Common.{arith, ◌∙◌}
use Rattle.std.proofs.lemmas.Nat.{one_shl}
use Rattle.p3_dft.proofs.Sizes.{extended_power_within}
use Rattle.p3_dft_tests.proofs.transform.columns_agree.Goals as goal

pub coset_lde_batch-requires-clause-within_two_adicity : goal.coset_lde_batch-requires-clause-within_two_adicity
coset_lde_batch-requires-clause-within_two_adicity g c = extended_power_within _ c.args.log_height 1 g.F.TwoAdicField.TWO_ADICITY c.matrix-values.ensures.height c.requires.within_two_adicity

pub coset_lde-requires-clause-within_two_adicity : goal.coset_lde-requires-clause-within_two_adicity
coset_lde-requires-clause-within_two_adicity g c = extended_power_within _ c.args.log_height 1 g.F.TwoAdicField.TWO_ADICITY (c.elements-column.ensures ∙ one_shl c.args.log_height 64 (omega (arith, c.requires.low))) c.requires.within_two_adicity
