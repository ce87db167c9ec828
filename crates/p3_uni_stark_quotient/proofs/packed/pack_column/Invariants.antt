use Rattle.std.proofs.Common.{◌≡◌, ◌<◌, ℕ, slice_index_or}
use Rattle.p3_uni_stark_quotient.proofs.packed.pack_column.Given as goal

-- the entries in the lanes so far
abbrev pub invariant-loop-lane : goal.invariant-loop-lane
invariant-loop-lane g l = (k : ℕ) (x : g.row.F.Denot) (row : _) → k < l.lane
    → g.P.PackedField.lane l.packed k
    ≡ slice_index_or (slice_index_or l.fn.rows k row).now l.fn.column x
