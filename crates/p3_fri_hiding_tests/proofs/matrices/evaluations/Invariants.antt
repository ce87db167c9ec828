use Rattle.std.proofs.Common.{All}
use Rattle.p3_fri_hiding_tests.specs.Fits.{Fits}
use Rattle.p3_fri_hiding_tests.proofs.matrices.evaluations.Given as goal

abbrev pub invariant-loop-entries : goal.invariant-loop-entries
invariant-loop-entries g l = All (λ e. Fits l.factor e.0.log_size e.1) l.all.items
