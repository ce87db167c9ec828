use Rattle.std.proofs.Common.{◌≡◌, ◌≤◌, All, take}
use Rattle.std.specs.Vec.{vec_len}
use Rattle.p3_fri_openings.proofs.denominators.inverses_at.Given as goal

abbrev pub invariant-loop-entry : goal.invariant-loop-entry
invariant-loop-entry g l =
    All (λ entry. (entry.point ≡ l.point) → l.height ≤ vec_len entry.inverses → ⊥) (take l.entry-index l.table)
