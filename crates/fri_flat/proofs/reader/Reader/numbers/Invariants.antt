use Rattle.std.proofs.Common.{◌≡◌, ◌++◌, vec_len}
use Rattle.fri_flat.specs.Flat.{numbers}
use Rattle.fri_flat.proofs.reader.Reader.numbers.Given as goal

abbrev pub invariant-loop : goal.invariant-loop
invariant-loop l = (l.fn.self.left.now ≡ numbers l.layout l.numbers.items ++ l.self.left.now)
    × (vec_len l.numbers ≡ l.counter)
