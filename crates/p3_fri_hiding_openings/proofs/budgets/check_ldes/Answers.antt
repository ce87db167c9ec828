use Rattle.std.proofs.Common.{length, ◌/◌, ◌^◌, refl, ap, ◌∙◌, subst}
use Rattle.p3_matrix.specs.Matrix.{rows}
use Rattle.p3_fri_masks.specs.Budget.{FitsBudget, BudgetRefusal}
use Rattle.p3_fri_openings.proofs.First.{one_more, to_the_end}
use Rattle.p3_fri_hiding_openings.proofs.Mapped.{all_mapped, refused_at}
use Rattle.p3_fri_hiding_openings.proofs.budgets.check_ldes.Goals as goal

pub loop-lde-preserved : goal.loop-lde-preserved
loop-lde-preserved g c =
    one_more (λ e. FitsBudget c.args.num_random_codewords c.args.num_queries c.args.extension_degree
    (length (rows e) / 2 ^ c.args.log_blowup / 2) 1) c.args.ldes.now c.loop-lde.lde-index
    c.lde-item.result c.loop-lde-test.true c.lde-item.is c.loop-lde.invariant
    (subst (λ h. FitsBudget c.args.num_random_codewords c.args.num_queries c.args.extension_degree h 1)
    (c.lde_mask_height-height.ensures ∙ ap (λ n. n / 2 ^ c.args.log_blowup / 2) c.height.ensures) (c.in_ok-check_hiding_budget.ensures.exactly.0 refl))

pub returns : goal.returns
returns g c =
    all_mapped (λ e. length (rows e) / 2 ^ c.args.log_blowup / 2)
    (λ h. FitsBudget c.args.num_random_codewords c.args.num_queries c.args.extension_degree h 1)
    c.args.ldes.now
    (to_the_end (λ e. FitsBudget c.args.num_random_codewords c.args.num_queries c.args.extension_degree
    (length (rows e) / 2 ^ c.args.log_blowup / 2) 1) c.args.ldes.now c.loop-lde.lde-index
    c.loop-lde-test.false c.loop-lde.invariant)

pub returns-in_err-check_hiding_budget : goal.returns-in_err-check_hiding_budget
returns-in_err-check_hiding_budget g c =
    let Refused = BudgetRefusal c.args.num_random_codewords c.args.num_queries c.args.extension_degree in
    let error = c.in_err-check_hiding_budget.field-0.0 in
    let height = c.lde_mask_height-height.ensures
    ∙ ap (λ n. n / 2 ^ c.args.log_blowup / 2) c.height.ensures in
    refused_at (λ e. length (rows e) / 2 ^ c.args.log_blowup / 2) (λ h e. Refused h 1 e) _
    c.from_residual.result error c.args.ldes.now c.loop-lde.lde-index c.lde-item.result
    c.loop-lde-test.true c.lde-item.is c.from_residual.ensures.1
    (subst (λ h. Refused h 1 error) height c.in_err-check_hiding_budget.ensures.refusal)
