use Rattle.p3_fri_relation.specs.TestRounds.{HasSiblings}
use Rattle.p3_fri_relation.specs.Views.{rounds_opened}
use Rattle.p3_fri_verifier.proofs.Lists.{AreBefore}
use Rattle.p3_fri_verifier.proofs.siblings.check_siblings.Given as goal

abbrev pub invariant-loop-round : goal.invariant-loop-round
invariant-loop-round g l = AreBefore (HasSiblings l.num_queries) l.round l.log_arities (rounds_opened l.openings)
