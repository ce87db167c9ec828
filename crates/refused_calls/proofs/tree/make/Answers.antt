use Rattle.std.proofs.Common.{sym, subst}
use Rattle.p3_mmcs.specs.Batch.{HavePowerHeights, dimensions_of}
use Rattle.refused_calls.proofs.Lists.{power_heights}
use Rattle.refused_calls.proofs.tree.make.Goals as goal

pub commit-answer-requires : goal.commit-answer-requires
commit-answer-requires g c = record {
  heights = subst (λ ms. HavePowerHeights (dimensions_of ms)) (sym c.in_ok-matrices.ensures)
      (power_heights c.in_ok-first.first c.in_ok-second.second 3 1 c.in_ok-first.ensures.height
      c.in_ok-second.ensures.height);
}
