use Rattle.std.proofs.Common.{take, All}
use Rattle.p3_fri_masks.specs.Masked.{IsTooWide}
use Rattle.p3_fri_masks.proofs.masked.check_widths.Given as goal

abbrev pub invariant-loop-evaluation : goal.invariant-loop-evaluation
invariant-loop-evaluation g l =
    All (λ e. ¬ IsTooWide l.num_random_codewords e.1) (take l.evaluation-index l.evaluations)
