use Rattle.std.specs.List.{AllWithin}
use Rattle.p3_fri_pow.specs.Fits.{FitsList, FitsPoints}
use Rattle.p3_fri_pcs_transcript.proofs.laws.commitments_fit.Given as goal

abbrev pub invariant-loop-matrices : goal.invariant-loop-matrices
invariant-loop-matrices l = AllWithin (λ matrices. FitsList (λ points. FitsPoints points.items) matrices.items) l.commitments 0 l.matrices-index
