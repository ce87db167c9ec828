use Rattle.std.proofs.Common.{◌≢◌, ℕ, ◌<◌, get_or}
use Rattle.p3_converse.proofs.conditions.are_distinct.Given as goal

abbrev pub invariant-loop-later : goal.invariant-loop-later
invariant-loop-later g l = (i j : ℕ) (d : g.row.F.Denot) → i < j → j < l.later → get_or l.points i d ≢ get_or l.points j d

abbrev pub invariant-loop-earlier : goal.invariant-loop-earlier
invariant-loop-earlier g l = (i : ℕ) (d : g.row.F.Denot) → i < l.earlier → get_or l.points i d ≢ get_or l.points l.later d
