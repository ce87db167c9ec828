use Rattle.std.proofs.Common.{◌≡◌, ◌≤◌, ◌*◌, ◌++◌, drop, length, vec_len, vec_capacity}
use Rattle.algebra.specs.Nested.{joined}
use Rattle.p3_matrix.specs.Matrix.{rows}
use Rattle.p3_matrix.specs.Columns.{rows_with_zero_columns}
use Rattle.p3_matrix.proofs.dense.RowMajorMatrix.with_zero_cols.Given as goal

-- what is added from here on gives what the whole gives
abbrev pub invariant-loop-index : goal.invariant-loop-index
invariant-loop-index g l =
    let wider = rows_with_zero_columns g.T.Field.ops.zero l.count in
    let rs = rows l.self in
    record {
      rows : l.padded.items ++ joined (wider (drop l.index rs)) ≡ joined (wider rs);
      room : length rs * l.width ≤ vec_capacity l.padded;
      len : vec_len l.padded ≡ l.index * l.width;
    }
