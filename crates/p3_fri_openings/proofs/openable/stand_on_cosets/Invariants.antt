use Rattle.std.proofs.Common.{All, take}
use Rattle.p3_fri_openings.specs.Rounds.{HasCoset}
use Rattle.p3_fri_openings.proofs.openable.stand_on_cosets.Given as goal

abbrev pub invariant-loop-request : goal.invariant-loop-request
invariant-loop-request g l =
    All (λ r. All (HasCoset g.F.TwoAdicField.TWO_ADICITY)
    (g.M.Mmcs.committed r.prover_data.now)) (take l.request-index l.requests)
