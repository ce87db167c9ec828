use Rattle.std.proofs.Common.{◌∷◌, [], ap, sym, rules, ◌∙◌}
use Rattle.p3_fri_openings.proofs.OpenableRequests.{openable_same}
use Rattle.p3_fri_two_adic_tests.proofs.Known.{one_is_honest, one_fits}
use Rattle.p3_fri_two_adic_tests.proofs.headline.is_shown.Goals as goal

pub open_and_verify-answer-requires-clause-prover :
    goal.open_and_verify-answer-requires-clause-prover
open_and_verify-answer-requires-clause-prover g c =
    (g.met.P.Pcs.keeps_law _ _ c.commit-committed.ensures.kept).prover_range (search rules)

pub open_and_verify-answer-requires-clause-verifier :
    goal.open_and_verify-answer-requires-clause-verifier
open_and_verify-answer-requires-clause-verifier g c =
    (g.met.P.Pcs.keeps_law _ _ c.commit-committed.ensures.kept).verifier_range (search rules)

pub open_and_verify-answer-requires-clause-shape : goal.open_and_verify-answer-requires-clause-shape
open_and_verify-answer-requires-clause-shape g c =
    openable_same (c.deref.ensures.value ∙ sym c.as_mut_slice.ensures.value)
    (c.are_openable.ensures c.if-not-are_openable.false)

pub open_and_verify-answer-requires-clause-honest :
    goal.open_and_verify-answer-requires-clause-honest
open_and_verify-answer-requires-clause-honest g c =
    let is = c.as_mut_slice.ensures.value ∙ c.listed-requests.ensures in
    one_is_honest _ _ _ is c.commit-committed.ensures.honest c.points_of.ensures

pub open_and_verify-answer-requires-clause-commitments :
    goal.open_and_verify-answer-requires-clause-commitments
open_and_verify-answer-requires-clause-commitments g c =
    let is = c.as_mut_slice.ensures.value ∙ c.listed-requests.ensures in
    let known_is = c.as_slice.ensures.value ∙ c.listed-all_known.ensures in
    rw (known_is, is) (ap (λ x. x ∷ []) (sym c.commit-committed.ensures.commitment))

pub open_and_verify-answer-requires-clause-domains :
    goal.open_and_verify-answer-requires-clause-domains
open_and_verify-answer-requires-clause-domains g c =
    let is = c.as_mut_slice.ensures.value ∙ c.listed-requests.ensures in
    let known_is = c.as_slice.ensures.value ∙ c.listed-all_known.ensures in
    one_fits _ _ _ _ _ _ known_is is c.commit-committed.ensures.sizes
