use Rattle.sha256_lanes.proofs.Windows.{later_round}
use Rattle.sha256_lanes.proofs.rounds.schedule_round.Goals as goal

pub returns : goal.returns
returns c = λ block hash lane lt held.
    later_round block hash lane c.args.window.now _ c.args.before _ c.schedule_word-word.result c.args.turn c.args.place
    c.requires.positive c.requires.turn c.requires.place held (c.schedule_word-word.ensures.value lane lt)
    c.schedule_word-word.ensures.window (c.round.ensures lane lt)
