use Rattle.std.proofs.Common.{◌≡◌, ℕ, ◌<◌, ◌+◌, ◌*◌, length, get_or}
use Rattle.algebra.specs.Nested.{lists}
use Rattle.p3_periodic.specs.Batches.{entry_at}
use Rattle.p3_periodic.proofs.batch.rows_of_columns.Given as goal

abbrev pub invariant-loop-row : goal.invariant-loop-row
invariant-loop-row g l =
    let F = g.F.Field.ops in
    record {
      len : length l.values.items ≡ l.row * length l.places;
      entries : (i c : ℕ) → i < l.row → c < length l.places
          → get_or l.values.items (i * length l.places + c) F.zero
          ≡ entry_at F (lists l.columns) i (get_or l.places c 0);
    }
