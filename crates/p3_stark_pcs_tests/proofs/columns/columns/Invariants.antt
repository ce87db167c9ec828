use Rattle.std.proofs.Common.{All}
use Rattle.p3_fri_extensions.specs.Extension.{FitsDomain}
use Rattle.p3_stark_pcs_tests.proofs.columns.columns.Given as goal

abbrev pub invariant-loop-shift : goal.invariant-loop-shift
invariant-loop-shift g l = All (λ e. FitsDomain 27 1 e.0.log_size e.1) l.all.items
