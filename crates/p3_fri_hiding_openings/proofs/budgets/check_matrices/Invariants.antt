use Rattle.std.proofs.Common.{length, take, All}
use Rattle.p3_matrix.specs.Matrix.{rows}
use Rattle.p3_fri_masks.specs.Budget.{FitsBudget}
use Rattle.p3_fri_hiding_openings.proofs.budgets.check_matrices.Given as goal

abbrev pub invariant-loop-evaluation : goal.invariant-loop-evaluation
invariant-loop-evaluation g l = All (λ e. FitsBudget l.num_random_codewords l.num_queries l.extension_degree
    (length (rows e.1)) 1) (take l.evaluation-index l.evaluations)
