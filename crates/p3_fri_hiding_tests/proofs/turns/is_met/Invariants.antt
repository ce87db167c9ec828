use Rattle.p3_fri_hiding_tests.proofs.turns.is_met.Given as goal

abbrev pub invariant-loop-index : goal.invariant-loop-index
invariant-loop-index g l = g.P.Tested.IsOf l.setting l.scheme
