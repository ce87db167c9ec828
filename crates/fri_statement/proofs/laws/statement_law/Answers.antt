use Rattle.fri_statement.proofs.Statements.{statement_determined, context_determined}
use Rattle.fri_statement.proofs.HidingStreams.{hiding_determined}
use Rattle.fri_statement.proofs.laws.statement_law.Goals as goal

pub returns : goal.returns
returns c = record {
  statement = statement_determined;
  context = context_determined;
  hiding = hiding_determined;
}
