use Rattle.std.proofs.Common.{All, take}
use Rattle.algebra.specs.Cosets.{IsOffCoset}
use Rattle.p3_fri_openings.proofs.checks.first_in_evaluation_domain.Given as goal

abbrev pub invariant-loop-index : goal.invariant-loop-index
invariant-loop-index g l = All (IsOffCoset g.F.Field.ops g.EF.ExtensionField.lift
    g.F.TwoAdicField.root g.F.Field.GENERATOR l.log_height) (take l.index l.points)
