use Rattle.std.proofs.Common.{length, ap, ◌∙◌}
use Rattle.p3_stark_pcs_tests.proofs.Requests.{openable}
use Rattle.p3_stark_pcs_tests.proofs.opened.is_opened.Goals as goal

pub open_with_preprocessing-answer-requires-clause-shape :
    goal.open_with_preprocessing-answer-requires-clause-shape
open_with_preprocessing-answer-requires-clause-shape g c =
    let plain = g.met.P.UnivariateStarkPcs.plain_law g.met.P.Tested.hides_nothing_law c.args.scheme.now in
    plain.openable _ _
    (openable _ _ _ _ (c.as_mut_slice.ensures.value ∙ c.listed-requests.ensures)
    c.requires.openable (ap length c.listed-2.ensures) c.requires.matrices)
