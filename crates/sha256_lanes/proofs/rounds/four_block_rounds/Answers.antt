use Rattle.std.proofs.Common.{arith}
use Rattle.sha256_lanes.proofs.Windows.{first_at}
use Rattle.sha256_lanes.proofs.rounds.four_block_rounds.Goals as goal

pub returns : goal.returns
returns c = λ block hash lane lt held.
    let one = c.block_round-one.ensures block hash lane lt held in
    let two = c.block_round-two.ensures block hash lane lt one in
    let three = c.block_round-three.ensures block hash lane lt (first_at block hash lane _ _ _ _ (omega arith) two) in
    first_at block hash lane _ _ _ _ (omega arith)
    (c.block_round.ensures block hash lane lt (first_at block hash lane _ _ _ _ (omega arith) three))
