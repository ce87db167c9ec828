use Rattle.std.proofs.Common.{All, map, take}
use Rattle.p3_pcs.specs.Requests.{request}
use Rattle.p3_fri_relation.specs.Views.{parameters_of}
use Rattle.p3_fri_openings.specs.Refusals.{AreTallEnough}
use Rattle.p3_fri_opening_prover.proofs.request_checks.check_request_heights.Given as goal

abbrev pub invariant-loop-request : goal.invariant-loop-request
invariant-loop-request g l =
    All (λ r. AreTallEnough (parameters_of l.params) (g.InputMmcs.Mmcs.committed r.datum))
    (take l.request-index (map request l.requests))
