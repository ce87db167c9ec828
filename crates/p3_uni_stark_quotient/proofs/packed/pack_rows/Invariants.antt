use Rattle.std.proofs.Common.{◌≡◌, ◌<◌, ◌+◌, ◌%◌, ℕ, [], length, slice_index_or}
use Rattle.p3_uni_stark_quotient.specs.Given.{rows_if_any}
use Rattle.p3_uni_stark_quotient.proofs.packed.pack_rows.Given as goal

-- the rows so far
abbrev pub invariant-loop-lane : goal.invariant-loop-lane
invariant-loop-lane g l =
    record {
      len : length l.rows.items ≡ l.lane;
      each : (k : ℕ) (row : _) → k < l.lane → (slice_index_or l.rows.items k row).now
          ≡ slice_index_or (rows_if_any l.fn.matrix) ((l.fn.start + k) % l.fn.period) [];
    }
