use Rattle.p3_fri_folding.specs.Schedule.{tallest}
use Rattle.fri_soundness.specs.CommittedWords.{last_word}
use Rattle.fri_soundness_error.proofs.Counted.{rounds_counted, batch_counted}
use Rattle.fri_soundness_error.proofs.laws.numbers_law.Goals as goal

pub returns-clause-rounds : goal.returns-clause-rounds
returns-clause-rounds g c F L top w W heights failing log_blowup within inputs rolled rounds words p
    are =
    rounds_counted F L top w W heights failing log_blowup inputs rolled (tallest heights) rounds
    words (last_word F w inputs (tallest heights) rounds words p) within are

pub returns-clause-batches : goal.returns-clause-batches
returns-clause-batches g c F L top w W shift nonzero heights failing log_blowup h ts t some room =
    batch_counted F L top w W shift nonzero heights failing log_blowup h ts t some room
