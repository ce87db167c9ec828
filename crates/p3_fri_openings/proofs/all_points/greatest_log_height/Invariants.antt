use Rattle.std.proofs.Common.{◌≡◌, ◌≤◌, ◌⊎◌, All, take}
use Rattle.std.specs.List.{Any}
use Rattle.p3_fri_openings.specs.Rounds.{HasHeight, log_height}
use Rattle.p3_fri_openings.proofs.all_points.greatest_log_height.Given as goal

abbrev pub invariant-loop-round : goal.invariant-loop-round
invariant-loop-round g l = record {
  greatest : All (λ r. All (λ m. log_height m ≤ l.greatest) r.matrices.now)
      (take l.round-index l.rounds);
  attained : (l.greatest ≡ 0) ⊎ Any (HasHeight l.greatest) l.rounds;
  within : l.greatest ≤ g.F.TwoAdicField.TWO_ADICITY;
}
