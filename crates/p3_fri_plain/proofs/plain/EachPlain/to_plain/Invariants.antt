use Rattle.std.proofs.Common.{◌≡◌, map, take}
use Rattle.std.specs.List.{All}
use Rattle.p3_fri_plain.specs.Faults.{IsFaultless}
use Rattle.p3_fri_plain.proofs.plain.EachPlain.to_plain.Given as goal

abbrev pub invariant-loop-value : goal.invariant-loop-value
invariant-loop-value g l = let T = g.T.Plain in record {
  numbers : map T.listed l.forms.items
      ≡ map T.numbers (map T.seen (take l.value-index l.values.items));
  faultless : All (λ form. IsFaultless T.has_fault (T.listed form)) l.forms.items;
}
