use Rattle.fri_commands.proofs.CommandLemmas.{answer-other_of_four}
use Rattle.fri_commands.proofs.answer.answer_of_four.Goals as goal

pub returns-in_default : goal.returns-in_default
returns-in_default c =
    answer-other_of_four c.args.command.now c.args.first.now c.args.second.now c.args.third.now c.args.fourth.now c.in_default.not-prove
