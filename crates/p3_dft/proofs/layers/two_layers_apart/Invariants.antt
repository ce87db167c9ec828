use Rattle.std.proofs.Common.{◌≡◌, ◌<◌, ◌+◌, ◌*◌, ℕ}
use Rattle.p3_dft.specs.Butterflies.{entry, block_entry, sum_of_sums, difference_of_sums}
use Rattle.p3_dft.specs.Butterflies.{sum_of_differences, difference_of_differences}
use Rattle.p3_dft.proofs.layers.two_layers_apart.Given as goal

abbrev pub invariant-loop-m : goal.invariant-loop-m
invariant-loop-m g l =
    let A = g.row.EF.Denot in
    let B = g.row.F.Denot in
    let K = g.EF.Field.ops in
    let lift = g.EF.ExtensionField.lift in
    let q = l.quarter in
    let x : A → ℕ → ℕ → A = λ d m. block_entry l.source (q + q + (q + q)) d m in
    let t : B → ℕ → A = λ e m. lift (entry l.twiddles e ((m + m) * l.stride)) in
    let u : B → ℕ → A = λ e m. lift (entry l.twiddles e (m * l.stride)) in
    record {
      first : (m j : ℕ) (d : A) (e : B) → m < l.m → j < q
          → block_entry l.first q d m j ≡ sum_of_sums K (x d m) (t e m) (u e m) q j;
      second : (m j : ℕ) (d : A) (e : B) → m < l.m → j < q
          → block_entry l.second q d m j ≡ sum_of_differences K (x d m) (t e m) (u e (l.blocks + m)) q j;
      third : (m j : ℕ) (d : A) (e : B) → m < l.m → j < q
          → block_entry l.third q d m j ≡ difference_of_sums K (x d m) (t e m) (u e m) q j;
      fourth : (m j : ℕ) (d : A) (e : B) → m < l.m → j < q
          → block_entry l.fourth q d m j ≡ difference_of_differences K (x d m) (t e m) (u e (l.blocks + m)) q j;
    }
