use Rattle.std.proofs.Common.{length, refl, subst}
use Rattle.p3_matrix.specs.Matrix.{rows}
use Rattle.p3_fri_masks.specs.Budget.{FitsBudget, BudgetRefusal}
use Rattle.p3_fri_openings.proofs.First.{one_more, to_the_end}
use Rattle.p3_fri_hiding_openings.proofs.Mapped.{all_mapped, refused_at}
use Rattle.p3_fri_hiding_openings.proofs.budgets.check_matrices.Goals as goal

pub loop-evaluation-preserved : goal.loop-evaluation-preserved
loop-evaluation-preserved g c =
    one_more (λ e. FitsBudget c.args.num_random_codewords c.args.num_queries c.args.extension_degree
    (length (rows e.1)) 1) c.args.evaluations.now c.loop-evaluation.evaluation-index
    c.evaluation-item.result c.loop-evaluation-test.true c.evaluation-item.is c.loop-evaluation.invariant
    (subst (λ h. FitsBudget c.args.num_random_codewords c.args.num_queries c.args.extension_degree h 1)
    c.height-height.ensures (c.in_ok-check_hiding_budget.ensures.exactly.0 refl))

pub returns : goal.returns
returns g c =
    all_mapped (λ e. length (rows e.1))
    (λ h. FitsBudget c.args.num_random_codewords c.args.num_queries c.args.extension_degree h 1)
    c.args.evaluations.now
    (to_the_end (λ e. FitsBudget c.args.num_random_codewords c.args.num_queries c.args.extension_degree
    (length (rows e.1)) 1) c.args.evaluations.now c.loop-evaluation.evaluation-index
    c.loop-evaluation-test.false c.loop-evaluation.invariant)

pub returns-in_err-check_hiding_budget : goal.returns-in_err-check_hiding_budget
returns-in_err-check_hiding_budget g c =
    let Refused = BudgetRefusal c.args.num_random_codewords c.args.num_queries c.args.extension_degree in
    let error = c.in_err-check_hiding_budget.field-0.0 in
    refused_at (λ e. length (rows e.1)) (λ h e. Refused h 1 e) _ c.from_residual.result error c.args.evaluations.now
    c.loop-evaluation.evaluation-index c.evaluation-item.result c.loop-evaluation-test.true c.evaluation-item.is
    c.from_residual.ensures.1
    (subst (λ h. Refused h 1 error) c.height-height.ensures c.in_err-check_hiding_budget.ensures.refusal)
