use Rattle.p3_fri_relation.proofs.Example.{is_example}
use Rattle.p3_fri_relation.proofs.laws.relation_example_law.Goals as goal

pub returns : goal.returns
returns c = is_example
