use Rattle.std.proofs.Common.{All, take}
use Rattle.p3_fri_openings.specs.Rounds.{HasCoset}
use Rattle.p3_fri_openings.proofs.openable.have_cosets.Given as goal

abbrev pub invariant-loop-matrix : goal.invariant-loop-matrix
invariant-loop-matrix g l =
    All (HasCoset g.F.TwoAdicField.TWO_ADICITY) (take l.matrix-index l.matrices)
