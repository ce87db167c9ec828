use Rattle.std.proofs.Common.{◌≡◌, ◌≤◌, ◌⊎◌, All, take}
use Rattle.std.specs.List.{Any}
use Rattle.p3_fri_openings.specs.Rounds.{log_height}
use Rattle.p3_fri_openings.proofs.all_points.greatest_log_height_of.Given as goal

abbrev pub invariant-loop-matrix : goal.invariant-loop-matrix
invariant-loop-matrix g l = record {
  greatest : All (λ m. log_height m ≤ l.greatest) (take l.matrix-index l.matrices);
  attained : (l.greatest ≡ 0) ⊎ Any (λ m. log_height m ≡ l.greatest) l.matrices;
  within : l.greatest ≤ g.F.TwoAdicField.TWO_ADICITY;
}
