use Rattle.std.proofs.Common.{All, take}
use Rattle.p3_fri_openings.specs.Rounds.{IsRound}
use Rattle.p3_fri_openings_tests.proofs.rounds.are_rounds.Given as goal

abbrev pub invariant-loop-round : goal.invariant-loop-round
invariant-loop-round l = All (IsRound 27) (take l.round-index l.rounds)
