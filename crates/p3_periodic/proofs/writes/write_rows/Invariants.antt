use Rattle.std.proofs.Common.{ℕ, ◌<◌, ◌*◌, ◌%◌, length}
use Rattle.p3_periodic.specs.Writes.{Belong, MeetInRows}
use Rattle.p3_periodic.proofs.writes.write_rows.Given as goal

abbrev pub invariant-loop-i : goal.invariant-loop-i
invariant-loop-i g l =
    (target : ℕ → g.row.T.Denot)
    → ((i : ℕ) → i < l.height → Belong target (i * l.width) l.places
    (i % l.period * length l.places) l.values)
    → MeetInRows target l.width l.i l.places l.initial.table l.table
