use Rattle.algebra.proofs.Quotients.{coset_word-quotient, quotients_compressed}
use Rattle.algebra.proofs.quotients_law.Goals as goal

pub returns-clause-values : goal.returns-clause-values
returns-clause-values g c F L w shift k p z off = coset_word-quotient F L w shift k p z off

pub returns-clause-compressed : goal.returns-clause-compressed
returns-clause-compressed g c F L z x alpha ys vs e = quotients_compressed F L z x alpha ys vs e
