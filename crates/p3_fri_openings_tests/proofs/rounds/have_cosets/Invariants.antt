use Rattle.std.proofs.Common.{All, take}
use Rattle.p3_fri_openings.specs.Rounds.{HasCoset}
use Rattle.p3_fri_openings_tests.proofs.rounds.have_cosets.Given as goal

abbrev pub invariant-loop-matrix : goal.invariant-loop-matrix
invariant-loop-matrix l =
    All (HasCoset 27) (take l.matrix-index l.matrices)
