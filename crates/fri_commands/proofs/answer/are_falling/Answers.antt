use Rattle.fri_commands.proofs.CommandLemmas.{is_strictly_falling-test}
use Rattle.fri_commands.proofs.answer.are_falling.Goals as goal

pub returns-clause-test : goal.returns-clause-test
returns-clause-test c = is_strictly_falling-test c.args.heights.now _ c.is_strictly_falling.ensures
