use Rattle.std.proofs.Common.{◌≡◌, ◌<◌, ◌≤◌, ◌+◌, ◌*◌, ℕ, get_or}
use Rattle.algebra.specs.Field.{pow}
use Rattle.p3_dft.proofs.scaling.scale_rows.Given as goal

abbrev pub invariant-loop-i : goal.invariant-loop-i
invariant-loop-i g l = record {
  factor : l.factor ≡ g.F.Field.ops.mul l.fn.first (pow g.F.Field.ops l.ratio l.i);
  scaled : (i j : ℕ) (d : g.row.EF.Denot) → i < l.i → j < l.width → get_or l.values (i * l.width + j) d ≡ g.EF.Field.ops.mul (get_or l.initial.values (i * l.width + j) d) (g.EF.ExtensionField.lift (g.F.Field.ops.mul l.fn.first (pow g.F.Field.ops l.ratio i)));
  others : (k : ℕ) (d : g.row.EF.Denot) → l.i * l.width ≤ k → get_or l.values k d ≡ get_or l.initial.values k d;
}
