use Rattle.std.proofs.Common.{◌≡◌, sym, ◌∙◌, arith}
use Rattle.p3_field.proofs.IndexPowers.{exponents_agree}
use Rattle.p3_fri_core_tests.proofs.folding.is_folded.Goals as goal

pub fold_matrix-word-requires-clause-power_of_two : goal.fold_matrix-word-requires-clause-power_of_two
fold_matrix-word-requires-clause-power_of_two g c = (c.args.fold.now.log_height, c.rows_of-matrix.ensures.height)

pub fold_matrix-word-requires-clause-within_max_height : goal.fold_matrix-word-requires-clause-within_max_height
fold_matrix-word-requires-clause-within_max_height g c h e =
    let same : c.args.fold.now.log_height ≡ h =
    exponents_agree c.args.fold.now.log_height h (sym c.rows_of-matrix.ensures.height ∙ e) in
    omega (arith, same, c.requires)
