use Rattle.algebra.proofs.Barycentric.{barycentric_value}
use Rattle.algebra.proofs.barycentric_law.Goals as goal

pub returns : goal.returns
returns g c = λ F L K M lift H top w W shift n k m b p s z off. barycentric_value F K lift L M H top w W shift n k m b p s z off
