use Rattle.std.proofs.Common.{◌≡◌}
use Rattle.algebra.specs.Polynomial.{val}
use Rattle.algebra.proofs.Roots.{zero_from_roots}
use Rattle.algebra.proofs.Lists.{distinct_from_AllPairs, each_from_All, All_from_each}
use Rattle.algebra.proofs.roots_law.Goals as goal

pub returns : goal.returns
returns g t F L c xs d n h = All_from_each (λ a. a ≡ F.zero) c (zero_from_roots F L c xs n (distinct_from_AllPairs xs d) (each_from_All (λ x. val F c x ≡ F.zero) xs h))
