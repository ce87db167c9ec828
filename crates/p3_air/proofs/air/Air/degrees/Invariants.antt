use Rattle.std.proofs.Common.{◌≡◌, length, drop}
use Rattle.p3_air.specs.Nodes.{meanings_after, meanings, degrees_in}
use Rattle.p3_air.proofs.air.Air.degrees.Given as goal

abbrev pub invariant-loop-i : goal.invariant-loop-i
invariant-loop-i g l = record {
  len : length l.degrees.items ≡ l.i;
  run : meanings_after degrees_in l.degrees.items (drop l.i l.self.nodes.items)
      ≡ meanings degrees_in l.self.nodes.items;
}
