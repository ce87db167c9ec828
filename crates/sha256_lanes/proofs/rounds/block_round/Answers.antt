use Rattle.std.proofs.Common.{arith}
use Rattle.sha256_lanes.proofs.Windows.{first_round, lane_words_at}
use Rattle.sha256_lanes.proofs.rounds.block_round.Goals as goal

pub returns : goal.returns
returns c = λ block hash lane lt held.
    first_round block hash lane c.args.window.now c.args.before _ c.args.t _ c.requires held
    (lane_words_at c.args.window.now lane c.args.t _ (omega arith)) (c.round.ensures lane lt)
