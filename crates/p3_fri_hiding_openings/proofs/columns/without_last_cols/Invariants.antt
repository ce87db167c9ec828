use Rattle.std.proofs.Common.{◌≡◌, ◌++◌, ◌*◌, drop, vec_len}
use Rattle.algebra.specs.Nested.{joined}
use Rattle.p3_matrix.specs.Matrix.{rows}
use Rattle.p3_fri_hiding_openings.proofs.Kept.{kept_rows}
use Rattle.p3_fri_hiding_openings.proofs.columns.without_last_cols.Given as goal

-- what is added from here on gives what the whole gives
abbrev pub invariant-loop-index : goal.invariant-loop-index
invariant-loop-index g l =
    let rs = rows l.matrix in
    record {
      rows : l.values.items ++ joined (kept_rows l.kept (drop l.index rs)) ≡ joined (kept_rows l.kept rs);
      len : vec_len l.values ≡ l.index * l.kept;
    }
