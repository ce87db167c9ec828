use Rattle.std.proofs.Common.{◌≡◌, ◌<◌, ◌≤◌, ℕ, get_or}
use Rattle.p3_dft.proofs.scaling.scale_row.Given as goal

abbrev pub invariant-loop-k : goal.invariant-loop-k
invariant-loop-k g l =
    let K = g.EF.Field.ops in
    let t = g.EF.ExtensionField.lift l.fn.factor in
    record {
      scaled : (k : ℕ) (d : g.row.EF.Denot) → k < l.k → get_or l.entries k d ≡ K.mul (get_or l.initial.entries k d) t;
      others : (k : ℕ) (d : g.row.EF.Denot) → l.k ≤ k → get_or l.entries k d ≡ get_or l.initial.entries k d;
    }
