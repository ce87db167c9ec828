use Rattle.fri_commands.proofs.CommandLemmas.{answer-other}
use Rattle.fri_commands.proofs.answer.answer_of_three.Goals as goal

pub returns-in_default : goal.returns-in_default
returns-in_default c =
    answer-other c.args.command.now c.args.first.now c.args.second.now c.args.third.now c.in_default.not-schedule c.in_default.not-fold
