use Rattle.algebra.proofs.PointTest.{point_test}
use Rattle.algebra.proofs.point_test_law.Goals as goal

pub returns : goal.returns
returns g c = λ F L K M lift H top w W shift n k b z. point_test F K lift L M H top w W shift n k b z
