use Rattle.std.proofs.Common.{◌≡◌, ◌++◌, map, take}
use Rattle.std.specs.List.{flat_map}
use Rattle.p3_challenger_fs.specs.Pattern.{number_bytes}
use Rattle.fri_statement.proofs.labels.push_point.Given as goal

abbrev pub invariant-loop-index : goal.invariant-loop-index
invariant-loop-index g l = l.label.items ≡ l.fn.label.items ++ flat_map number_bytes
    (map g.F.PrimeField64.canonical (take l.index (g.EF.ExtensionField.coefficients l.point)))
