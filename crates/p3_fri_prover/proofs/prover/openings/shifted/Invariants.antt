use Rattle.std.proofs.Common.{◌≡◌, ◌/◌, ◌^◌, map, take}
use Rattle.p3_fri_prover.proofs.prover.openings.shifted.Given as goal

abbrev pub invariant-loop-index : goal.invariant-loop-index
invariant-loop-index l =
    l.shifted.items ≡ map (λ i. i / 2 ^ l.bits) (take l.index-index l.indices)
