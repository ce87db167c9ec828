use Rattle.std.proofs.Common.{arith}
use Rattle.p3_dft_tests.proofs.transform.two_coefficients.Goals as goal

pub coset_lde_batch-extended-requires-clause-power_of_two : goal.coset_lde_batch-extended-requires-clause-power_of_two
coset_lde_batch-extended-requires-clause-power_of_two g c = (1, omega arith)
