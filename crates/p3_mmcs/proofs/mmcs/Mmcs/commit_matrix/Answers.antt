use Rattle.std.proofs.Common.{◌++◌, ◌∷◌, [], ap, sym, subst, ◌∙◌}
use Rattle.p3_mmcs.specs.Batch.{HavePowerHeights, dimensions_of}
use Rattle.p3_mmcs.proofs.mmcs.Mmcs.commit_matrix.Goals as goal

pub commit-requires : goal.commit-requires
commit-requires g c =
    let whole = c.in_ok-push.ensures.items
    ∙ ap (λ matrices. matrices ++ c.args.matrix ∷ []) c.new-matrices.ensures.items in
    record { heights = subst (λ matrices. HavePowerHeights (dimensions_of matrices)) (sym whole) c.requires.height }
