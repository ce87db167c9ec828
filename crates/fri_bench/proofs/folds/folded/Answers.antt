use Rattle.std.proofs.Common.{sym, arith, ◌∙◌}
use Rattle.p3_field.proofs.IndexPowers.{exponents_agree}
use Rattle.fri_bench.proofs.folds.folded.Goals as goal

pub fold_matrix-requires-clause-within_max_height :
    goal.fold_matrix-requires-clause-within_max_height
fold_matrix-requires-clause-within_max_height c h e =
    let same = exponents_agree _ h (sym c.in_ok-matrix.ensures.height ∙ e) in
    omega (arith, same, c.if-log_arity-log_size.false, c.if-log_size-gt27.false)
