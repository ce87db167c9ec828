use Rattle.std.proofs.Common.{◌≡◌, ◌≤◌, length, drop}
use Rattle.p3_air.specs.Degrees.{greatest_degree}
use Rattle.p3_air.proofs.air.Air.max_constraint_degree.Given as goal

abbrev pub invariant-loop-k : goal.invariant-loop-k
invariant-loop-k g l = record {
  within : l.k ≤ length l.self.constraints.items;
  run : l.greatest ≡ greatest_degree l.degrees.items (drop l.k l.self.constraints.items);
}
