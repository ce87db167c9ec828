use Rattle.std.proofs.Common.{◌/◌, ◌^◌, refl, ap, subst}
use Rattle.p3_fri_masks.specs.Budget.{FitsBudget, BudgetRefusal}
use Rattle.p3_fri_openings.proofs.First.{one_more, to_the_end}
use Rattle.p3_fri_hiding_openings.proofs.Mapped.{all_mapped, refused_at}
use Rattle.p3_fri_hiding_openings.proofs.budgets.check_domains.Goals as goal

pub loop-domain-preserved : goal.loop-domain-preserved
loop-domain-preserved g c =
    one_more (λ e. FitsBudget c.args.num_random_codewords c.args.num_queries c.args.extension_degree
    (2 ^ e.log_size / 2) 1) c.args.domains.now c.loop-domain.domain-index
    c.domain-item.result c.loop-domain-test.true c.domain-item.is c.loop-domain.invariant
    (subst (λ h. FitsBudget c.args.num_random_codewords c.args.num_queries c.args.extension_degree h 1)
    (ap (λ n. n / 2) c.size-height.ensures) (c.in_ok-check_hiding_budget.ensures.exactly.0 refl))

pub returns : goal.returns
returns g c =
    all_mapped (λ e. 2 ^ e.log_size / 2)
    (λ h. FitsBudget c.args.num_random_codewords c.args.num_queries c.args.extension_degree h 1)
    c.args.domains.now
    (to_the_end (λ e. FitsBudget c.args.num_random_codewords c.args.num_queries c.args.extension_degree
    (2 ^ e.log_size / 2) 1) c.args.domains.now c.loop-domain.domain-index
    c.loop-domain-test.false c.loop-domain.invariant)

pub returns-in_err-check_hiding_budget : goal.returns-in_err-check_hiding_budget
returns-in_err-check_hiding_budget g c =
    let Refused = BudgetRefusal c.args.num_random_codewords c.args.num_queries c.args.extension_degree in
    let error = c.in_err-check_hiding_budget.field-0.0 in
    refused_at (λ e. 2 ^ e.log_size / 2) (λ h e. Refused h 1 e) _ c.from_residual.result error c.args.domains.now
    c.loop-domain.domain-index c.domain-item.result c.loop-domain-test.true c.domain-item.is
    c.from_residual.ensures.1
    (subst (λ h. Refused h 1 error) (ap (λ n. n / 2) c.size-height.ensures) c.in_err-check_hiding_budget.ensures.refusal)
