use Rattle.std.proofs.Common.{take}
use Rattle.std.specs.List.{AllZip}
use Rattle.algebra.specs.Nested.{nested}
use Rattle.p3_fri_prover.specs.Openings.{OpensBatch}
use Rattle.p3_fri_prover.proofs.prover.openings.open_inputs.Given as goal

abbrev pub invariant-loop-datum : goal.invariant-loop-datum
invariant-loop-datum g l = AllZip
    (λ datum o. OpensBatch (g.M.Mmcs.opens l.mmcs) l.log_max_height l.positions
    (g.M.Mmcs.committed datum.prover_data.now) (g.M.Mmcs.commitment_of datum.prover_data.now)
    (record { rows = nested o.opened_values.items; path = o.opening_proof }))
    (take l.datum-index l.data_with_points) l.openings.items
