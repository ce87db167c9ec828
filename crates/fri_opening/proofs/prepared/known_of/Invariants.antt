use Rattle.std.proofs.Common.{◌≡◌, map, take}
use Rattle.fri_opening.proofs.prepared.known_of.Given as goal

abbrev pub invariant-loop-committed : goal.invariant-loop-committed
invariant-loop-committed g l = record {
  commitments : map (λ k. k.commitment) l.known.items
      ≡ map (λ c. c.commitment) (take l.committed-index l.all);
  domains : map (λ k. k.domains.items) l.known.items
      ≡ map (λ c. c.domains.items) (take l.committed-index l.all);
}
