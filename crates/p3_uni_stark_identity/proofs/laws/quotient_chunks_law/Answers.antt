use Rattle.p3_uni_stark_identity.proofs.Complete.{chunks_agree}
use Rattle.p3_uni_stark_identity.proofs.laws.quotient_chunks_law.Goals as goal

pub returns : goal.returns
returns g c F L K M lift H top w W k d b shift n off dimension basis coefficient has air given l columns are fits satisfied alpha chunks these z off_z =
    chunks_agree F L K M lift H top w W k d b shift n off dimension basis coefficient has air given
    l columns are fits satisfied alpha chunks these z off_z
