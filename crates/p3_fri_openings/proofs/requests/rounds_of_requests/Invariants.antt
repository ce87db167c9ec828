use Rattle.std.proofs.Common.{◌≡◌, map, take}
use Rattle.p3_fri_openings.specs.Requests.{round_request, matrices_request}
use Rattle.p3_fri_openings.proofs.requests.rounds_of_requests.Given as goal

abbrev pub invariant-loop-request : goal.invariant-loop-request
invariant-loop-request g l = map round_request l.rounds.items
    ≡ map (matrices_request g.M.Mmcs.committed) (take l.request-index l.requests)
