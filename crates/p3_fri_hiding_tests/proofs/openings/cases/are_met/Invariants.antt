use Rattle.p3_fri_hiding_tests.proofs.openings.cases.are_met.Given as goal

abbrev pub invariant-loop-batch : goal.invariant-loop-batch
invariant-loop-batch g l = g.P.Tested.IsOf l.setting l.scheme
