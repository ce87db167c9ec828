use Rattle.std.proofs.Common.{arith, ◌∙◌}
use Rattle.std.proofs.lemmas.Nat.{one_shl}
use Rattle.p3_dft.proofs.Sizes.{power_within}
use Rattle.p3_dft_tests.proofs.transform.algebra_comes_back.Goals as goal

pub idft_algebra-requires-clause-within_two_adicity : goal.idft_algebra-requires-clause-within_two_adicity
idft_algebra-requires-clause-within_two_adicity g c =
    power_within _ c.args.log_height g.F.TwoAdicField.TWO_ADICITY (c.elements-values.ensures ∙ one_shl c.args.log_height 64 (omega (arith, c.requires.low))) c.requires.within_two_adicity
