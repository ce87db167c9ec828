use Rattle.std.proofs.Common.{◌≡◌, ◌++◌, vec_len}
use Rattle.std.specs.List.{All}
use Rattle.fri_flat.specs.Flat.{elements, IsElement}
use Rattle.fri_flat.proofs.reader.Reader.elements.Given as goal

abbrev pub invariant-loop : goal.invariant-loop
invariant-loop l = (l.fn.self.left.now ≡ elements l.layout l.elements.items ++ l.self.left.now)
    × (vec_len l.elements ≡ l.counter)
    × All (IsElement l.layout) l.elements.items
