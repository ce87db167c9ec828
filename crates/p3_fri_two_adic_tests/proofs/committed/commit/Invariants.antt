use Rattle.std.proofs.Common.{◌≡◌, All, map}
use Rattle.p3_fri_extensions.specs.Extension.{FitsDomain}
use Rattle.p3_fri_two_adic_tests.proofs.committed.commit.Given as goal

abbrev pub invariant-loop-numbers : goal.invariant-loop-numbers
invariant-loop-numbers g l = All (λ e. FitsDomain 27 1 e.0.log_size e.1) l.evaluations.items
    × (l.domains.items ≡ map (λ e. e.0) l.evaluations.items)
