use Rattle.std.proofs.Common.{◌≡◌, ◌/◌, ◌^◌, ◌++◌, take, drop, map}
use Rattle.p3_fri_verifier.proofs.positions.positions_of.Given as goal

abbrev pub invariant-loop-k : goal.invariant-loop-k
invariant-loop-k l = l.positions.items ≡ map (λ index. index / 2 ^ l.extra_bits) (take l.k l.fn.indices.items) ++ drop l.k l.fn.indices.items
