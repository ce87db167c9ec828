use Rattle.p3_fri_folding.proofs.lanes.+fold_halves_by_lanes.Given as goal

abbrev pub decreases-fold_halves_by_lanes : goal.decreases-fold_halves_by_lanes
decreases-fold_halves_by_lanes g l = l.log_arity
