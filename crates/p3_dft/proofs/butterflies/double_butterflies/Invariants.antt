use Rattle.std.proofs.Common.{◌≡◌, ◌<◌, ℕ}
use Rattle.p3_dft.specs.Butterflies.{entry, sum_of_sums, difference_of_sums}
use Rattle.p3_dft.specs.Butterflies.{sum_of_differences, difference_of_differences}
use Rattle.p3_dft.proofs.butterflies.double_butterflies.Given as goal

abbrev pub invariant-loop-j : goal.invariant-loop-j
invariant-loop-j g l =
    let K = g.EF.Field.ops in
    let t = g.EF.ExtensionField.lift l.fn.twiddles.twiddle in
    let u = g.EF.ExtensionField.lift l.fn.twiddles.even in
    let v = g.EF.ExtensionField.lift l.fn.twiddles.odd in
    let q = l.quarter in
    record {
      first : (j : ℕ) (d : g.row.EF.Denot) → j < l.j → entry l.first d j ≡ sum_of_sums K (entry l.block d) t u q j;
      second : (j : ℕ) (d : g.row.EF.Denot) → j < l.j → entry l.second d j ≡ sum_of_differences K (entry l.block d) t v q j;
      third : (j : ℕ) (d : g.row.EF.Denot) → j < l.j → entry l.third d j ≡ difference_of_sums K (entry l.block d) t u q j;
      fourth : (j : ℕ) (d : g.row.EF.Denot) → j < l.j → entry l.fourth d j ≡ difference_of_differences K (entry l.block d) t v q j;
    }
