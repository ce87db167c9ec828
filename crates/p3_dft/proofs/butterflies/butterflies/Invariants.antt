use Rattle.std.proofs.Common.{◌≡◌, ◌<◌, ℕ}
use Rattle.p3_dft.specs.Butterflies.{entry, sum_at, difference_at}
use Rattle.p3_dft.proofs.butterflies.butterflies.Given as goal

abbrev pub invariant-loop-j : goal.invariant-loop-j
invariant-loop-j g l =
    let K = g.EF.Field.ops in
    let t = g.EF.ExtensionField.lift l.fn.twiddle in
    record {
      sums : (j : ℕ) (d : g.row.EF.Denot) → j < l.j → entry l.sums d j ≡ sum_at K (entry l.block d) t l.half j;
      differences : (j : ℕ) (d : g.row.EF.Denot) → j < l.j → entry l.differences d j ≡ difference_at K (entry l.block d) t l.half j;
    }
