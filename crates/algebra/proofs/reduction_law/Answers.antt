use Rattle.algebra.proofs.Reduction.{coset_word-reduced}
use Rattle.algebra.proofs.reduction_law.Goals as goal

pub returns : goal.returns
returns g c F L top w W = coset_word-reduced F L top w W
