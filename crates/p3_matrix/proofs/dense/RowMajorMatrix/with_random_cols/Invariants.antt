use Rattle.std.proofs.Common.{◌≡◌, ◌≤◌, ◌*◌, length, vec_len, vec_capacity}
use Rattle.p3_matrix.specs.Matrix.{rows}
use Rattle.p3_matrix.proofs.Columns.{IsWidening}
use Rattle.p3_matrix.proofs.dense.RowMajorMatrix.with_random_cols.Given as goal

abbrev pub invariant-loop-index : goal.invariant-loop-index
invariant-loop-index g l =
    let rs = rows l.self in
    record {
      widening : IsWidening g.T.SampleField.from_word l.count rs (g.R.Rng.stream l.fn.rng) l.index l.values.items (g.R.Rng.stream l.rng);
      room : length rs * l.width ≤ vec_capacity l.values;
      len : vec_len l.values ≡ l.index * l.width;
    }
