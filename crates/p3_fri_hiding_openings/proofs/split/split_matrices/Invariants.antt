use Rattle.std.proofs.Common.{map}
use Rattle.algebra.specs.Nested.{lists}
use Rattle.p3_fri_hiding_openings.specs.Halves.{shown, kept_back}
use Rattle.p3_fri_hiding_openings.proofs.Cut.{IsCutTo}
use Rattle.p3_fri_hiding_openings.proofs.split.split_matrices.Given as goal

abbrev pub invariant-loop-i : goal.invariant-loop-i
invariant-loop-i g l = IsCutTo (λ vector. lists vector.items) (λ vector. lists vector.items)
    (λ place. map (shown l.count)) (λ place. map (kept_back l.count)) l.i l.fn.values l.values
    l.kept.items
