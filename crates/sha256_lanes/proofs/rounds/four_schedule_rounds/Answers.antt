use Rattle.std.proofs.Common.{arith}
use Rattle.sha256_lanes.proofs.Windows.{later_at}
use Rattle.sha256_lanes.proofs.rounds.four_schedule_rounds.Goals as goal

pub returns : goal.returns
returns c = λ block hash lane lt held.
    let one = c.schedule_round-one.ensures block hash lane lt held in
    let two = c.schedule_round-two.ensures block hash lane lt (later_at block hash lane _ _ _ _ (omega arith) one) in
    let three = c.schedule_round-three.ensures block hash lane lt (later_at block hash lane _ _ _ _ (omega arith) two) in
    later_at block hash lane _ _ _ _ (omega arith)
    (c.schedule_round.ensures block hash lane lt (later_at block hash lane _ _ _ _ (omega arith) three))
