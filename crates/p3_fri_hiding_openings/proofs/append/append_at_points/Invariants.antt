use Rattle.p3_pcs.specs.Claims.{point_claim}
use Rattle.p3_fri_hiding_openings.specs.RandomValues.{with_values}
use Rattle.p3_fri_hiding_openings.proofs.Written.{IsWrittenTo}
use Rattle.p3_fri_hiding_openings.proofs.append.append_at_points.Given as goal

abbrev pub invariant-loop-i : goal.invariant-loop-i
invariant-loop-i g l = IsWrittenTo point_claim (λ vector. vector.items) with_values
    l.i l.fn.points l.points l.random
