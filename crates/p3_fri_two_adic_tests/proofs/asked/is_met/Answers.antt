use Rattle.std.proofs.Common.{sym, ◌∙◌}
use Rattle.p3_fri_openings.proofs.OpenableRequests.{openable_same}
use Rattle.p3_fri_two_adic_tests.proofs.asked.is_met.Goals as goal

pub open-requires-clause-shape : goal.open-requires-clause-shape
open-requires-clause-shape g c =
    openable_same (c.deref.ensures.value ∙ sym c.as_mut_slice.ensures.value)
    (c.are_openable.ensures c.if-not-are_openable.false)
