use Rattle.std.proofs.Common.{◌≡◌, ◌++◌, ℕ, List, map, take}
use Rattle.std.specs.List.{flat_map}
use Rattle.fri_statement.specs.Statement.{numbers_bytes}
use Rattle.fri_statement.proofs.labels.push_points.Given as goal

-- the numbers of the coefficients
abbrev pub numbers : (g : goal.Over) → g.row.EF.Denot → List ℕ
numbers g x = map g.F.PrimeField64.canonical (g.EF.ExtensionField.coefficients x)

abbrev pub invariant-loop-point : goal.invariant-loop-point
invariant-loop-point g l = l.label.items
    ≡ l.fn.label.items ++ flat_map numbers_bytes (map (numbers g) (take l.point-index l.points))
