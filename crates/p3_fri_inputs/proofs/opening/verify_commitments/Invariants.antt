use Rattle.p3_fri_relation.specs.Setting.{CommitmentClaim, InputOpening}
use Rattle.p3_fri_relation.specs.Inputs.{OpensInput}
use Rattle.p3_fri_relation.specs.Views.{claims_of, inputs_opened}
use Rattle.std.proofs.Common.{get_or, ℕ, ◌<◌}
use Rattle.std.specs.List.{zip}
use Rattle.p3_fri_inputs.proofs.opening.verify_commitments.Given as goal

abbrev pub invariant-loop-batch : goal.invariant-loop-batch
invariant-loop-batch g l =
    let cs = claims_of (λ domain. domain.log_size) l.setting.claims.now in
    let inputs = inputs_opened l.setting.openings.now in
    (i : ℕ) → i < l.batch
    → (d : CommitmentClaim g.row.EF.Denot g.row.InputMmcs-Commitment.Denot × InputOpening g.row.F.Denot g.row.InputMmcs-MultiProof.Denot)
    → OpensInput (g.InputMmcs.Mmcs.opens l.input_mmcs) l.setting.log_blowup
    l.setting.log_global_max_height l.setting.indices.now (get_or (zip cs inputs) i d).0
    (get_or (zip cs inputs) i d).1
