use Rattle.std.proofs.Common.{◌++◌, take}
use Rattle.algebra.specs.Nested.{lists}
use Rattle.p3_fri_pcs_transcript.specs.Absorption.{Absorbs}
use Rattle.p3_fri_pcs_transcript.specs.Counts.{lists_in_matrices, lists_of_values}
use Rattle.p3_fri_pcs_transcript.proofs.pcs_transcript.prover.absorb_values.Given as goal

abbrev pub invariant-loop-matrices : goal.invariant-loop-matrices
invariant-loop-matrices g l =
    Absorbs g.C.CanObserve.observed g.EF.ExtensionField.coefficients g.EF.ExtensionField.DIMENSION
    l.fn.script l.script l.fn.challenger l.challenger
    (lists_of_values (take l.matrices-index l.commitments))

abbrev pub invariant-loop-points : goal.invariant-loop-points
invariant-loop-points g l =
    Absorbs g.C.CanObserve.observed g.EF.ExtensionField.coefficients g.EF.ExtensionField.DIMENSION
    l.fn.script l.script l.fn.challenger l.challenger
    (lists_of_values (take l.matrices-index l.commitments)
    ++ lists_in_matrices (take l.points-index l.points-items))

abbrev pub invariant-loop-values : goal.invariant-loop-values
invariant-loop-values g l =
    Absorbs g.C.CanObserve.observed g.EF.ExtensionField.coefficients g.EF.ExtensionField.DIMENSION
    l.fn.script l.script l.fn.challenger l.challenger
    (lists_of_values (take l.matrices-index l.commitments)
    ++ lists_in_matrices (take l.points-index l.points-items)
    ++ lists (take l.values-index l.values-items))
