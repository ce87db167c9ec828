use Rattle.std.proofs.Common.{arith, sym, ◌∙◌}
use Rattle.refused_calls.proofs.Requests.{openable}
use Rattle.refused_calls.proofs.schemes.open.Goals as goal

pub open-requires-clause-shape : goal.open-requires-clause-shape
open-requires-clause-shape g c =
    openable _ _ _ _ (c.as_mut_slice.ensures.value ∙ c.in_ok-requests.ensures)
    c.requires.openable (c.in_ok-points.ensures ∙ sym c.requires.two)
    (omega (arith, c.in_ok-points.ensures))
