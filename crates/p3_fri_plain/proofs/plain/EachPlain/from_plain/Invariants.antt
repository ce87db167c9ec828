use Rattle.std.proofs.Common.{◌≡◌, map, take}
use Rattle.std.specs.List.{All}
use Rattle.p3_fri_plain.specs.Faults.{IsFaultless}
use Rattle.p3_fri_plain.proofs.plain.EachPlain.from_plain.Given as goal

abbrev pub invariant-loop-form : goal.invariant-loop-form
invariant-loop-form g l = let T = g.T.Plain in record {
  numbers : map T.numbers (map T.seen l.values.items)
      ≡ map T.listed (take l.form-index l.forms.items);
  faultless : All (λ form. IsFaultless T.has_fault (T.listed form))
      (take l.form-index l.forms.items);
}
