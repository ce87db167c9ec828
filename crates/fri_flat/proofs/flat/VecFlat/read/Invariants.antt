use Rattle.std.proofs.Common.{◌≡◌, ◌++◌, vec_len}
use Rattle.std.specs.List.{All, flat_map}
use Rattle.fri_flat.specs.Flat.{word}
use Rattle.fri_flat.proofs.flat.VecFlat.read.Given as goal

abbrev pub invariant-loop : goal.invariant-loop
invariant-loop g l = let V = g.V.Flat in record {
  form : l.fn.reader.left.now
      ≡ word l.count ++ flat_map (V.form l.layout) l.entries.items ++ l.reader.left.now;
  count : vec_len l.entries ≡ l.counter;
  whole : All (V.IsWhole l.layout) l.entries.items;
}
