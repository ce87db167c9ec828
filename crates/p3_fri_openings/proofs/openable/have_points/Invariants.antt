use Rattle.std.proofs.Common.{◌≡◌, All, take, length}
use Rattle.p3_fri_openings.proofs.openable.have_points.Given as goal

abbrev pub invariant-loop-request : goal.invariant-loop-request
invariant-loop-request g l =
    All (λ r. length r.points.items ≡ length (g.M.Mmcs.committed r.prover_data.now))
    (take l.request-index l.requests)
