use Rattle.std.proofs.Common.{ℕ, ◌<◌}
use Rattle.p3_field_core.proofs.packing.PackedField.from_fn.Given as goal

-- the lanes so far
abbrev pub invariant-loop-lane : goal.invariant-loop-lane
invariant-loop-lane g l = (i : ℕ) → i < l.lane → goal.C-post g l.values i (g.Self.PackedField.lane l.packed i)
