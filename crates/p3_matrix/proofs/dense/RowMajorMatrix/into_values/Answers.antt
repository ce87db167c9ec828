use Rattle.std.proofs.Common.{sym, ap, ◌∙◌, ◌%◌}
use Rattle.p3_matrix.specs.Matrix.{rows, matrix_width}
use Rattle.p3_matrix.proofs.Rows.{length-whole}
use Rattle.p3_matrix.proofs.dense.RowMajorMatrix.into_values.Goals as goal

pub returns-clause-len : goal.returns-clause-len
unfolding rows matrix_width
returns-clause-len g c =
    let m = c.args.self in
    let len = m.values.ok.0 in
    len ∙ sym (length-whole m.width m.values.items (ap (λ n. n % m.width) (sym len) ∙ m.whole_rows))
