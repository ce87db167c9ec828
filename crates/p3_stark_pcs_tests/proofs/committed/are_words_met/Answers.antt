use Rattle.std.proofs.Common.{length, sym, ap, subst, ◌∙◌}
use Rattle.std.proofs.lemmas.List.{length-map}
use Rattle.p3_stark_pcs_tests.proofs.committed.are_words_met.Goals as goal

-- there is room for the columns
pub get_quotient_ldes-requires : goal.get_quotient_ldes-requires
get_quotient_ldes-requires g c = record {
  room = (g.met.P.Tested.room_law c.args.scheme c.requires.tested).extend _ _
      c.columns-chunks.ensures;
}

pub is_opened-requires-clause-prover : goal.is_opened-requires-clause-prover
is_opened-requires-clause-prover g c =
    subst (λ s. (g.P.Pcs.rules s).InProverRange)
    (sym (c.in-Ok.ensures.unchanged g.met.P.Tested.hides_nothing_law)) c.requires.prover

pub is_opened-requires-clause-verifier : goal.is_opened-requires-clause-verifier
is_opened-requires-clause-verifier g c =
    subst (λ s. (g.P.Pcs.rules s).InVerifierRange)
    (sym (c.in-Ok.ensures.unchanged g.met.P.Tested.hides_nothing_law)) c.requires.verifier

pub is_opened-requires-clause-openable : goal.is_opened-requires-clause-openable
is_opened-requires-clause-openable g c =
    c.in-Ok-commit_ldes.ensures.openable c.in-Ok.ensures.openable

pub is_opened-requires-clause-matrices : goal.is_opened-requires-clause-matrices
is_opened-requires-clause-matrices g c =
    ap length c.in-Ok-commit_ldes.ensures.polynomials ∙ length-map _ _
    ∙ sym (c.len-matrices.ensures ∙ c.in-Ok.words.ok.0) ∙ c.if-matrices-ne1.false
