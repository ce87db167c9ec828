use Rattle.std.proofs.Common.{◌≡◌, ◌≤◌, ◌-◌, length}
use Rattle.p3_dft.specs.Strided.{AfterLayers}
use Rattle.p3_dft.proofs.transform.transform.Given as goal

abbrev pub invariant-loop-done : goal.invariant-loop-done
invariant-loop-done g l =
    let root = g.EF.ExtensionField.lift l.fn.root in
    let xs = l.fn.values.items in
    record {
      within : l.done ≤ l.log_height;
      current : length l.current.items ≡ length xs;
      spare : length l.spare.items ≡ length xs;
      values : AfterLayers g.EF.Field.ops root l.width l.log_height l.done xs l.current.items;
    }

abbrev pub decreases-loop-done : goal.decreases-loop-done
decreases-loop-done g l = l.log_height - l.done
