use Rattle.std.proofs.Common.{◌≡◌, map, take}
use Rattle.algebra.specs.Nested.{lists}
use Rattle.p3_air_plain.proofs.elements.rows_from_plain.Given as goal

abbrev pub invariant-loop-row : goal.invariant-loop-row
invariant-loop-row g l = map (map g.F.PrimeField64.canonical) (lists l.all.items)
    ≡ take l.row (lists l.rows)
