use Rattle.std.proofs.Common.{sym}
use Rattle.fri_commands.proofs.ProveLemmas.{parsed_number-within}
use Rattle.fri_commands.proofs.prove.prove_lines.Goals as goal

pub opened_lines-requires-clause-blowup : goal.opened_lines-requires-clause-blowup
opened_lines-requires-clause-blowup c = parsed_number-within 27 c.args.log_blowup.now c.in-Some.log_blowup (sym c.in-Some.ensures)
