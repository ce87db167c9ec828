use Rattle.std.proofs.Common.{take}
use Rattle.p3_fri_relation.specs.Views.{parameters_of}
use Rattle.p3_fri_openings.specs.Refusals.{AreTallEnough}
use Rattle.p3_fri_openings.proofs.checks.check_round_heights.Given as goal

abbrev pub invariant-loop-matrix : goal.invariant-loop-matrix
invariant-loop-matrix g l = AreTallEnough (parameters_of l.params) (take l.matrix-index l.matrices)
