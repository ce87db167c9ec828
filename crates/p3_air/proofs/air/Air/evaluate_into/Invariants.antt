use Rattle.std.proofs.Common.{◌≡◌, length, drop}
use Rattle.p3_air.specs.Nodes.{meanings_after, meanings, values_in}
use Rattle.p3_air.specs.Shapes.{entries_of}
use Rattle.p3_air.proofs.air.Air.evaluate_into.Given as goal

abbrev pub invariant-loop-i : goal.invariant-loop-i
invariant-loop-i g l =
    let m = values_in g.EF.Field.ops g.EF.ExtensionField.lift g.F.Field.ops.zero
    (entries_of l.window) in
    record {
      len : length l.values.items ≡ l.i;
      run : meanings_after m l.values.items (drop l.i l.self.nodes.items)
          ≡ meanings m l.self.nodes.items;
    }
