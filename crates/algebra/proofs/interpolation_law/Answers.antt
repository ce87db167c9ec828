use Rattle.std.proofs.Common.{sym}
use Rattle.algebra.specs.Interpolation.{interpolant}
use Rattle.algebra.proofs.Interpolation.{interpolant_interpolates, interpolates_unique}
use Rattle.algebra.proofs.Interpolation.{interpolated-length}
use Rattle.algebra.proofs.Lists.{distinct_from_AllPairs}
use Rattle.algebra.proofs.interpolation_law.Goals as goal

pub returns-clause-exists : goal.returns-clause-exists
returns-clause-exists g c F L xs ys d n = interpolant_interpolates F L xs ys (sym n) (distinct_from_AllPairs xs d)

pub returns-clause-unique : goal.returns-clause-unique
returns-clause-unique g c F L xs ys p d h = interpolates_unique F L xs ys p (interpolant F xs ys) (distinct_from_AllPairs xs d) h (interpolant_interpolates F L xs ys (sym (interpolated-length F xs ys p h)) (distinct_from_AllPairs xs d))
