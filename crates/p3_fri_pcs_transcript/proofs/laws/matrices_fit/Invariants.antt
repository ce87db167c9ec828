use Rattle.std.specs.List.{AllWithin}
use Rattle.p3_fri_pow.specs.Fits.{FitsPoints}
use Rattle.p3_fri_pcs_transcript.proofs.laws.matrices_fit.Given as goal

abbrev pub invariant-loop-points : goal.invariant-loop-points
invariant-loop-points l = AllWithin (λ points. FitsPoints points.items) l.matrices 0 l.points-index
