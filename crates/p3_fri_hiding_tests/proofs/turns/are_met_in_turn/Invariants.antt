use Rattle.p3_fri_hiding_tests.proofs.turns.are_met_in_turn.Given as goal

abbrev pub invariant-loop-turn : goal.invariant-loop-turn
invariant-loop-turn g l = g.P.Tested.IsOf l.setting l.scheme
