use Rattle.p3_prime_field.proofs.ProthTest.{proth_prime}
use Rattle.p3_prime_field.proofs.proth_law.Goals as goal

pub returns : goal.returns
returns c p k odd g is = proth_prime p k odd g is
