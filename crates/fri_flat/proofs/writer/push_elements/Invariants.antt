use Rattle.std.proofs.Common.{◌≡◌, ◌++◌, take}
use Rattle.std.specs.List.{All}
use Rattle.fri_flat.specs.Flat.{elements, IsElement}
use Rattle.fri_flat.proofs.writer.push_elements.Given as goal

abbrev pub invariant-loop-element : goal.invariant-loop-element
invariant-loop-element l = record {
  form : l.out.items ≡ l.fn.out.items ++ elements l.layout (take l.element-index l.list);
  lengths : All (IsElement l.layout) (take l.element-index l.list);
}
