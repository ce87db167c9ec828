use Rattle.std.proofs.Common.{◌≡◌, ◌++◌, map, vec_len}
use Rattle.fri_flat.specs.Flat.{numbers}
use Rattle.fri_flat.proofs.reader.Reader.values.Given as goal

abbrev pub invariant-loop : goal.invariant-loop
invariant-loop g l = (l.fn.self.left.now
    ≡ numbers l.layout (map g.F.PrimeField64.canonical l.values.items) ++ l.self.left.now)
    × (vec_len l.values ≡ l.counter)
