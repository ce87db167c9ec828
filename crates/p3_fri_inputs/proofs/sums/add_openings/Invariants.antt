use Rattle.p3_fri_relation.specs.Inputs.{rows_at}
use Rattle.p3_fri_relation.specs.Views.{claims_of, inputs_opened}
use Rattle.p3_fri_inputs.proofs.Openings.{AreSummedAfter}
use Rattle.p3_fri_inputs.proofs.sums.add_openings.Given as goal

abbrev pub invariant-loop-i : goal.invariant-loop-i
invariant-loop-i g l =
    AreSummedAfter g.EF.Field.ops g.EF.ExtensionField.lift l.setting.log_blowup l.ladder.alpha
    (claims_of (λ domain. domain.log_size) l.setting.claims.now)
    (rows_at l.query (inputs_opened l.setting.openings.now))
    l.inverses l.fn.sums l.i l.end l.sums
