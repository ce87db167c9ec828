use Rattle.std.proofs.Common.{◌≡◌, ◌<◌, ℕ, take, slice_index_or}
use Rattle.p3_uni_stark_quotient.specs.Lanes.{in_lane}
use Rattle.p3_uni_stark_quotient.proofs.packed.pack_columns.Given as goal

-- the columns so far
abbrev pub invariant-loop-column : goal.invariant-loop-column
invariant-loop-column g l = (k : ℕ) (row : _) → k < g.P.PackedField.WIDTH
    → in_lane g.P.PackedField.lane k l.packed.items
    ≡ take l.column (slice_index_or l.fn.rows k row).now
