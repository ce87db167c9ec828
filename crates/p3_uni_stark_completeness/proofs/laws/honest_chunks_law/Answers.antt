use Rattle.p3_uni_stark_completeness.proofs.Chunked.{chunks_give}
use Rattle.p3_uni_stark_completeness.proofs.laws.honest_chunks_law.Goals as goal

pub returns : goal.returns
returns g c F L K M lift H top w W k d b shift n off dimension basis coefficients has air given l columns are fits satisfied alpha on evaluated same values are_values chunks these z off_z =
    chunks_give F L K M lift H top w W k d b shift dimension coefficients n off basis has air given
    l columns are fits satisfied alpha on evaluated same values are_values chunks these z off_z
