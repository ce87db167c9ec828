use Rattle.std.proofs.Common.{subst, ap, ◌∙◌, refl}
use Rattle.p3_mmcs.specs.Batch.{HavePowerHeights, dimensions_of}
use Rattle.p3_fri_prover_tests.proofs.proofs.committed.Goals as goal

pub commit-requires : goal.commit-requires
commit-requires g c = record {
  heights = subst HavePowerHeights
      (c.as_slice-2.ensures.value ∙ c.dimensions-all.ensures
      ∙ ap dimensions_of c.as_slice.ensures.value) (c.if-not-have_power_heights.ensures.0 refl);
}
