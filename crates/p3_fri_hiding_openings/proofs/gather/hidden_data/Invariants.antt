use Rattle.std.proofs.Common.{◌≡◌, map, take}
use Rattle.p3_fri_hiding_openings.proofs.gather.hidden_data.Given as goal

abbrev pub invariant-loop-request : goal.invariant-loop-request
invariant-loop-request g l = map (λ d. d.prover_data.now) l.found.items
    ≡ map (λ r. r.prover_data.now.inner) (take l.request-index l.requests)
