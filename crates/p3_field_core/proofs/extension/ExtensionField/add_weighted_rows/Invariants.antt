use Rattle.std.proofs.Common.{◌≡◌, ◌<◌, ◌≤◌, ◌+◌, ℕ, length, get_or}
use Rattle.algebra.specs.Polynomial.{sum_below}
use Rattle.p3_field_core.specs.RowSums.{column_term}
use Rattle.p3_field_core.proofs.extension.ExtensionField.add_weighted_rows.Given as goal

-- the columns before `j` have one row more than those from it on
abbrev pub invariant-loop-j : goal.invariant-loop-j
invariant-loop-j g l =
    let K = g.Self.Field.ops in
    let term = column_term g.F.Field.ops K g.Self.ExtensionField.lift (length l.fn.sums) l.weights l.rows in
    record {
      added : (k : ℕ) (d : g.row.Self.Denot) → k < l.j → get_or l.sums k d
          ≡ K.add (get_or l.fn.sums k d) (sum_below K (l.i + 1) (term k));
      others : (k : ℕ) (d : g.row.Self.Denot) → l.j ≤ k → k < length l.fn.sums → get_or l.sums k d
          ≡ K.add (get_or l.fn.sums k d) (sum_below K l.i (term k));
    }

abbrev pub invariant-loop-i : goal.invariant-loop-i
invariant-loop-i g l =
    (k : ℕ) (d : g.row.Self.Denot) → k < length l.fn.sums → get_or l.sums k d
    ≡ g.Self.Field.ops.add (get_or l.fn.sums k d) (sum_below g.Self.Field.ops l.i
    (column_term g.F.Field.ops g.Self.Field.ops g.Self.ExtensionField.lift (length l.fn.sums) l.weights l.rows k))
