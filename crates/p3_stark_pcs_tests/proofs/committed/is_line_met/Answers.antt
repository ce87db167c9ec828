use Rattle.std.proofs.Common.{length, map, sym, ap, subst, ◌∙◌}
use Rattle.p3_stark_columns.proofs.Batches.{domains_fit}
use Rattle.p3_stark_columns.proofs.Requests.{count_of}
use Rattle.p3_stark_pcs_tests.proofs.Requests.{one_fits}
use Rattle.p3_stark_pcs_tests.proofs.committed.is_line_met.Goals as goal

-- there is room for the column
pub commit_preprocessing-requires : goal.commit_preprocessing-requires
commit_preprocessing-requires g c = record {
  room = subst (g.P.Pcs.rules c.args.scheme).CanCommit (sym c.listed-evaluations.ensures)
      ((g.met.P.Tested.room_law c.args.scheme c.requires.tested).commit _
      (one_fits (λ d. d.log_size) _ c.column-evaluation.ensures));
}

pub is_opened-requires-clause-prover : goal.is_opened-requires-clause-prover
is_opened-requires-clause-prover g c =
    subst (λ s. (g.P.Pcs.rules s).InProverRange)
    (sym (c.in-Ok.ensures.unchanged g.met.P.Tested.hides_nothing_law)) c.requires.prover

pub is_opened-requires-clause-verifier : goal.is_opened-requires-clause-verifier
is_opened-requires-clause-verifier g c =
    subst (λ s. (g.P.Pcs.rules s).InVerifierRange)
    (sym (c.in-Ok.ensures.unchanged g.met.P.Tested.hides_nothing_law)) c.requires.verifier

pub is_opened-requires-clause-openable : goal.is_opened-requires-clause-openable
is_opened-requires-clause-openable g c =
    ((g.met.P.UnivariateStarkPcs.plain_law g.met.P.Tested.hides_nothing_law _).of_data _).0
    c.in-Ok.ensures.openable

pub is_opened-requires-clause-matrices : goal.is_opened-requires-clause-matrices
is_opened-requires-clause-matrices g c =
    let sizes = domains_fit _ _ (g.met.P.Pcs.rules_law _).extends_size _ _ _
    c.in-Ok.ensures.extends
    (c.listed-domains.ensures ∙ sym (ap (λ es. map (λ e. e.0) es) c.listed-evaluations.ensures)) in
    sym (count_of _ _ _ sizes) ∙ ap length c.listed-domains.ensures

pub is_shown-requires-clause-prover : goal.is_shown-requires-clause-prover
is_shown-requires-clause-prover g c =
    subst (λ s. (g.P.Pcs.rules s).InProverRange)
    (sym (c.in-Ok.ensures.unchanged g.met.P.Tested.hides_nothing_law)) c.requires.prover

pub is_shown-requires-clause-verifier : goal.is_shown-requires-clause-verifier
is_shown-requires-clause-verifier g c =
    subst (λ s. (g.P.Pcs.rules s).InVerifierRange)
    (sym (c.in-Ok.ensures.unchanged g.met.P.Tested.hides_nothing_law)) c.requires.verifier

pub is_shown-requires-clause-openable : goal.is_shown-requires-clause-openable
is_shown-requires-clause-openable g c =
    ((g.met.P.UnivariateStarkPcs.plain_law g.met.P.Tested.hides_nothing_law _).of_data _).0
    c.in-Ok.ensures.openable

pub is_shown-requires-clause-sizes : goal.is_shown-requires-clause-sizes
is_shown-requires-clause-sizes g c =
    domains_fit _ _ (g.met.P.Pcs.rules_law _).extends_size _ _ _ c.in-Ok.ensures.extends
    (c.listed-domains.ensures ∙ sym (ap (λ es. map (λ e. e.0) es) c.listed-evaluations.ensures))

pub is_shown-requires-clause-matrices : goal.is_shown-requires-clause-matrices
is_shown-requires-clause-matrices g c =
    let sizes = domains_fit _ _ (g.met.P.Pcs.rules_law _).extends_size _ _ _
    c.in-Ok.ensures.extends
    (c.listed-domains.ensures ∙ sym (ap (λ es. map (λ e. e.0) es) c.listed-evaluations.ensures)) in
    sym (count_of _ _ _ sizes) ∙ ap length c.listed-domains.ensures
