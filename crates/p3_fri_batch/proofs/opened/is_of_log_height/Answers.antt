use Rattle.std.proofs.Common.{◌==◌, ap, ◌∙◌, length}
use Rattle.p3_matrix.specs.Matrix.{rows}
use Rattle.p3_fri_openings.proofs.Log2.{log2_is}
use Rattle.p3_fri_batch.proofs.opened.is_of_log_height.Goals as goal

pub returns : goal.returns
returns g c =
    ap (λ n. n == c.args.wanted) (log2_is (length (rows c.args.matrix.now))
    c.log2_strict_usize.result
    (c.log2_strict_usize.ensures.power ∙ c.height.ensures))
