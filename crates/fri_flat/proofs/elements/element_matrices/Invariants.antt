use Rattle.std.proofs.Common.{◌≡◌, ◌++◌, vec_len}
use Rattle.std.specs.List.{All, flat_map}
use Rattle.fri_numbers.specs.Elements.{record_of}
use Rattle.fri_flat.specs.Flat.{word, matrix, IsMatrix}
use Rattle.fri_flat.proofs.elements.element_matrices.Given as goal

abbrev pub invariant-loop : goal.invariant-loop
invariant-loop g l = let listed = record_of g.F.PrimeField64.canonical in record {
  form : l.fn.bytes ≡ word l.count
      ++ flat_map (λ m. matrix l.layout (listed m)) l.matrices.items ++ l.reader.left.now;
  count : vec_len l.matrices ≡ l.counter;
  whole : All (λ m. IsMatrix l.layout (listed m)) l.matrices.items;
}
