use Rattle.std.proofs.Common.{subst}
use Rattle.p3_fri_masks.specs.QuotientLdes.{CanBeMasked}
use Rattle.p3_fri_masks_tests.proofs.ldes.words_of.Goals as goal

pub quotient_ldes-requires : goal.quotient_ldes-requires
quotient_ldes-requires g c =
    subst (λ es. CanBeMasked g.F.Field.ops (λ d. d.shift) (λ d. d.log_size)
    g.F.TwoAdicField.TWO_ADICITY c.args.log_blowup es) c.deref.ensures.value
    c.assert_can_be_masked.ensures
