use Rattle.p3_fri_folding.proofs.folding.+fold_halves.Given as goal

abbrev pub decreases-fold_halves : goal.decreases-fold_halves
decreases-fold_halves g l = l.log_arity
