use Rattle.std.proofs.Common.{◌≡◌, [], All, take}
use Rattle.p3_fri_openings.proofs.openable.have_matrix.Given as goal

abbrev pub invariant-loop-request : goal.invariant-loop-request
invariant-loop-request g l =
    All (λ r. g.M.Mmcs.committed r.prover_data.now ≡ []) (take l.request-index l.requests)
