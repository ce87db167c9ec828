use Rattle.std.proofs.Common.{◌≡◌, ℕ, ◌<◌, ◌+◌, ◌*◌, ◌^◌, length}
use Rattle.algebra.specs.Nested.{lists}
use Rattle.p3_field_core.specs.Coset.{coset_point}
use Rattle.p3_periodic.specs.Batches.{column_at}
use Rattle.p3_periodic.specs.Tables.{table_entry}
use Rattle.p3_periodic.specs.Writes.{IsMet}
use Rattle.p3_periodic.proofs.extension.table_values.Given as goal

abbrev pub invariant-loop-log_period : goal.invariant-loop-log_period
invariant-loop-log_period g l =
    let F = g.F.Field.ops in
    let w = g.F.TwoAdicField.root in
    let cs = lists l.columns in
    let point = coset_point F (w l.lde_domain.log_size) l.lde_domain.shift in
    record {
      len : length l.table.items ≡ l.height * length l.columns;
      entries : (i j k : ℕ) → i < l.height → j < length l.columns → k < l.log_period
          → length (column_at cs j) ≡ 2 ^ k
          → IsMet (table_entry F w l.log_rows point cs) l.table.items (i * length l.columns + j);
    }
