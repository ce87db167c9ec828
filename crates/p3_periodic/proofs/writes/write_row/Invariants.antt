use Rattle.std.proofs.Common.{ℕ, ◌<◌, ◌+◌, get_or}
use Rattle.p3_periodic.specs.Writes.{IsMet, Belong}
use Rattle.p3_periodic.proofs.writes.write_row.Given as goal

abbrev pub invariant-loop-c : goal.invariant-loop-c
invariant-loop-c g l =
    (target : ℕ → g.row.T.Denot) → Belong target l.start l.places l.from l.values
    → record {
      kept : (place : ℕ) → IsMet target l.initial.table place → IsMet target l.table place;
      met : (c : ℕ) → c < l.c → IsMet target l.table (l.start + get_or l.places c 0);
    }
