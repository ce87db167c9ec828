use Rattle.std.proofs.Common.{◌≡◌, ◌<◌, ◌≤◌, ℕ, get_or}
use Rattle.p3_fri_openings.proofs.values.scale_all.Given as goal

abbrev pub invariant-loop-j : goal.invariant-loop-j
invariant-loop-j g l = record {
  scaled : (j : ℕ) (d : g.row.F.Denot) → j < l.j → get_or l.values j d
      ≡ g.F.Field.ops.mul l.fn.factor (get_or l.initial.values j d);
  others : (j : ℕ) (d : g.row.F.Denot) → l.j ≤ j → get_or l.values j d ≡ get_or l.initial.values j d;
}
