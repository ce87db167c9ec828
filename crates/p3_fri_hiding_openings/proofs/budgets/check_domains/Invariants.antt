use Rattle.std.proofs.Common.{◌/◌, ◌^◌, take, All}
use Rattle.p3_fri_masks.specs.Budget.{FitsBudget}
use Rattle.p3_fri_hiding_openings.proofs.budgets.check_domains.Given as goal

abbrev pub invariant-loop-domain : goal.invariant-loop-domain
invariant-loop-domain g l = All (λ e. FitsBudget l.num_random_codewords l.num_queries l.extension_degree
    (2 ^ e.log_size / 2) 1) (take l.domain-index l.domains)
