use Rattle.std.proofs.Common.{◌/◌, ◌^◌, length, take, All}
use Rattle.p3_matrix.specs.Matrix.{rows}
use Rattle.p3_fri_masks.specs.Budget.{FitsBudget}
use Rattle.p3_fri_hiding_openings.proofs.budgets.check_ldes.Given as goal

abbrev pub invariant-loop-lde : goal.invariant-loop-lde
invariant-loop-lde g l = All (λ e. FitsBudget l.num_random_codewords l.num_queries l.extension_degree
    (length (rows e) / 2 ^ l.log_blowup / 2) 1) (take l.lde-index l.ldes)
