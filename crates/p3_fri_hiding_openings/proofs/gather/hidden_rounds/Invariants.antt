use Rattle.std.proofs.Common.{◌≡◌, map, take}
use Rattle.p3_fri_openings.specs.Requests.{round_request, matrices_request}
use Rattle.p3_fri_hiding_openings.specs.Requests.{inner_request}
use Rattle.p3_fri_hiding_openings.proofs.gather.hidden_rounds.Given as goal

abbrev pub invariant-loop-request : goal.invariant-loop-request
invariant-loop-request g l = map round_request l.rounds.items
    ≡ map (λ r. matrices_request g.InputMmcs.Mmcs.committed (inner_request r))
    (take l.request-index l.requests)
