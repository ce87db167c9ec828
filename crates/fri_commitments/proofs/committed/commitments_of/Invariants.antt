use Rattle.std.proofs.Common.{◌≡◌, map, take}
use Rattle.fri_commitments.proofs.committed.commitments_of.Given as goal

abbrev pub invariant-loop-committed : goal.invariant-loop-committed
invariant-loop-committed g l =
    l.commitments.items ≡ map (λ c. c.commitment) (take l.committed-index l.all)
