use Rattle.std.proofs.Common.{◌≡◌, map, take, vec_len}
use Rattle.fri_numbers.proofs.elements.elements.Given as goal

abbrev pub invariant-loop-index : goal.invariant-loop-index
invariant-loop-index g l =
    (map g.F.PrimeField64.canonical l.values.items ≡ take l.index l.numbers) × (vec_len l.values ≡ l.index)
