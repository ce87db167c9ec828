use Rattle.std.proofs.Common.{subst, ap, ◌∙◌, rules}
use Rattle.p3_mmcs.specs.Batch.{HavePowerHeights, dimensions_of}
use Rattle.p3_mmcs_tests.proofs.sha256_mmcs.opened.Goals as goal

pub commit-requires : goal.commit-requires
commit-requires g c =
    record {
      heights = subst HavePowerHeights
          (c.deref-2.ensures.value ∙ c.dimensions-all.ensures
          ∙ ap dimensions_of c.deref.ensures.value) (c.have_power_heights.ensures.0 (search rules));
    }
