use Rattle.std.proofs.Common.{◌≡◌, ◌<◌, ℕ, length, get_or}
use Rattle.p3_mmcs.specs.declared.openings.PointOpening.{PointOpening}
use Rattle.p3_fri_inputs.proofs.checks.uneven_point.Given as goal

abbrev pub invariant-loop-k : goal.invariant-loop-k
invariant-loop-k g l = (j : ℕ) (d : PointOpening g.row.EF.Denot) → j < l.k
    → length (get_or l.points j d).values.items ≡ l.width
