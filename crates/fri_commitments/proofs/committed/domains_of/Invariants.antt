use Rattle.std.proofs.Common.{◌≡◌, map, take}
use Rattle.fri_commitments.proofs.committed.domains_of.Given as goal

abbrev pub invariant-loop-evaluation : goal.invariant-loop-evaluation
invariant-loop-evaluation g l =
    l.domains.items ≡ map (λ e. e.0) (take l.evaluation-index l.evaluations)
