use Rattle.std.proofs.Common.{◌≢◌, All, take}
use Rattle.p3_fri_openings.proofs.all_points.has_entry.Given as goal

abbrev pub invariant-loop-entry : goal.invariant-loop-entry
invariant-loop-entry g l = All (λ entry. entry.point ≢ l.point) (take l.entry-index l.table)
