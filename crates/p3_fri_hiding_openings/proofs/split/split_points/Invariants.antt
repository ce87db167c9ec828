use Rattle.p3_fri_hiding_openings.specs.Halves.{shown, kept_back}
use Rattle.p3_fri_hiding_openings.proofs.Cut.{IsCutTo}
use Rattle.p3_fri_hiding_openings.proofs.split.split_points.Given as goal

abbrev pub invariant-loop-i : goal.invariant-loop-i
invariant-loop-i g l = IsCutTo (λ vector. vector.items) (λ vector. vector.items)
    (λ place. shown l.count) (λ place. kept_back l.count) l.i l.fn.values l.values l.kept.items
