use Rattle.std.proofs.Common.{◌≡◌, map, take, drop, ◌++◌}
use Rattle.p3_pcs.specs.Requests.{with_data}
use Rattle.p3_fri_hiding_openings.specs.Requests.{after_opening}
use Rattle.p3_fri_hiding_openings.proofs.marks.mark_all.Given as goal

abbrev pub invariant-loop-i : goal.invariant-loop-i
invariant-loop-i g l =
    l.requests ≡ map (with_data after_opening) (take l.i l.fn.requests) ++ drop l.i l.fn.requests
