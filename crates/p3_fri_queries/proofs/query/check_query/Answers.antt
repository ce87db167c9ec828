use Rattle.std.proofs.Common.{refl, sym}
use Rattle.p3_fri_queries.specs.Settings.{query_in}
use Rattle.p3_fri_queries.proofs.QueryRefusals.{refused, handed_on}
use Rattle.p3_fri_queries.proofs.Orders.{rounds_fit, inputs_fit, in_order}
use Rattle.p3_fri_queries.proofs.FoldedRounds.{sum_within}
use Rattle.p3_fri_queries.proofs.query.check_query.Goals as goal

pub check_inputs-requires : goal.check_inputs-requires
check_inputs-requires g c =
    sum_within _ _ _ _ c.folded_arities-folded.ensures c.args.setting.now.log_global_max_height c.args.setting.now.log_final_height
    (c.in_ok-check_rounds.ensures.exact.0 refl).2

pub returns-in_err-check_rounds-clause-exact : goal.returns-in_err-check_rounds-clause-exact
returns-in_err-check_rounds-clause-exact g c = λ index. (
  λ is_ok. absurd (refused c.from_residual.result c.from_residual.ensures.0 is_ok),
  λ o. absurd (cc (c.in_err-check_rounds.ensures.exact.1 (rounds_fit _ o))),
)

pub returns-in_err-check_rounds-clause-fault : goal.returns-in_err-check_rounds-clause-fault
returns-in_err-check_rounds-clause-fault g c = λ index.
    handed_on _ c.from_residual.result c.in_err-check_rounds.field-0.0 c.from_residual.ensures
    (c.in_err-check_rounds.ensures.fault index c.args.setting.now.betas.now c.args.inputs.now)

pub returns-clause-exact : goal.returns-clause-exact
returns-clause-exact g c = λ index.
    let q = query_in c.args.setting.now c.args.query index c.args.inputs.now in
    let fit = c.check_inputs.ensures.exact q (sym c.folded_arities-folded.ensures) refl refl in (
      λ is_ok. in_order q c.folded_arities-folded.result.now c.args.inputs.now
          (sym c.folded_arities-folded.ensures) refl (c.in_ok-check_rounds.ensures.exact.0 refl)
          (fit.0 is_ok),
      λ o. fit.1 (inputs_fit q _ _ (sym c.folded_arities-folded.ensures) refl o),
    )

pub returns-clause-fault : goal.returns-clause-fault
returns-clause-fault g c = λ index.
    let q = query_in c.args.setting.now c.args.query index c.args.inputs.now in
    c.check_inputs.ensures.fault q (sym c.folded_arities-folded.ensures) refl refl refl
