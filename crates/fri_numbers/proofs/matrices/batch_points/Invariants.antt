use Rattle.std.proofs.Common.{◌≡◌, ◌≢◌, All, [], map, take}
use Rattle.algebra.specs.Nested.{lists}
use Rattle.fri_numbers.proofs.matrices.batch_points.Given as goal

abbrev pub invariant-loop-index : goal.invariant-loop-index
invariant-loop-index g l = record {
  some : All (λ zs. zs ≢ []) (lists l.all.items);
  numbers : map (map g.N.Numbered.numbers_of) (lists l.all.items)
      ≡ map (λ m. lists m.points.items) (take l.index l.batch.matrices.items);
}
