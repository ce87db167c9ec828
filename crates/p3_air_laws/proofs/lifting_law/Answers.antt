use Rattle.p3_air_laws.proofs.Lifted.{value_there}
use Rattle.p3_air_laws.proofs.lifting_law.Goals as goal

pub returns : goal.returns
returns g c F L K M lift H top w W k b air given l columns has node i below =
    value_there F L K M lift H top w W k b l given columns has air node i below
