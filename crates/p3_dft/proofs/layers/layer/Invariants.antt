use Rattle.std.proofs.Common.{◌≡◌, ◌<◌, ◌+◌, ◌*◌, ℕ}
use Rattle.p3_dft.specs.Butterflies.{entry, block_entry, sum_at, difference_at}
use Rattle.p3_dft.proofs.layers.layer.Given as goal

abbrev pub invariant-loop-m : goal.invariant-loop-m
invariant-loop-m g l =
    let A = g.row.EF.Denot in
    let B = g.row.F.Denot in
    let K = g.EF.Field.ops in
    let lift = g.EF.ExtensionField.lift in
    let h = l.half in
    record {
      sums : (m j : ℕ) (d : A) (e : B) → m < l.m → j < h → block_entry l.sums h d m j
          ≡ sum_at K (block_entry l.source (h + h) d m) (lift (entry l.twiddles e (m * l.stride))) h j;
      differences : (m j : ℕ) (d : A) (e : B) → m < l.m → j < h → block_entry l.differences h d m j
          ≡ difference_at K (block_entry l.source (h + h) d m) (lift (entry l.twiddles e (m * l.stride))) h j;
    }
