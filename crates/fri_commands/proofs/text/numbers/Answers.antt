use Rattle.std.proofs.Common.{arith}
use Rattle.std.proofs.lemmas.Grind.{common_steps}
use Rattle.fri_commands.specs.Texts.{parsed_list}
use Rattle.fri_commands.proofs.text.numbers.Goals as goal

pub returns-then-eq : goal.returns-then-eq
unfolding parsed_list
returns-then-eq c = grind (arith, common_steps)

pub returns : goal.returns
unfolding parsed_list
returns c = grind (arith, common_steps)
