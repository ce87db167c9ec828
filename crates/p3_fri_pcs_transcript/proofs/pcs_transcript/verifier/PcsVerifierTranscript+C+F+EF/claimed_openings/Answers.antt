use Rattle.std.proofs.Common.{◌++◌, ℕ, List, [], append-nil, length, map, refl, sym, ap, ◌∙◌, subst}
use Rattle.algebra.specs.Nested.{nested}
use Rattle.p3_fri_pcs_transcript.specs.Claims.{IsClaimFailure}
use Rattle.p3_fri_pcs_transcript.specs.Counts.{counts_of_claims, lists_of_claims}
use Rattle.p3_fri_pcs_transcript.specs.Cursor.{counts_left}
use Rattle.p3_fri_pcs_transcript.specs.Shapes.{pcs_shape}
use Rattle.p3_fri_pcs_transcript.specs.Steps.{widths}
use Rattle.p3_fri_pcs_transcript.specs.Turns.{claim_turns}
use Rattle.p3_fri_pcs_transcript.proofs.ClaimTurns.{batch_left, claims_both}
use Rattle.p3_fri_pcs_transcript.proofs.Comparisons.{fault_refused}
use Rattle.p3_fri_pcs_transcript.proofs.Widths.{claims_counted}
use Rattle.p3_fri_pcs_transcript.proofs.pcs_transcript.verifier.PcsVerifierTranscript+C+F+EF.claimed_openings.Goals as goal

pub absorb_claims-requires-clause-next : goal.absorb_claims-requires-clause-next
unfolding pcs_shape
absorb_claims-requires-clause-next g c =
    let d = g.EF.ExtensionField.DIMENSION in
    let others = batch_left d (pcs_shape c.args.self.now.shape) in (
      others,
      c.requires.no_step_played
          ∙ ap (λ counts. claim_turns d counts ++ others) (sym (c.new-described.ensures.counts ∙ ap (λ commitments. widths (nested commitments)) c.deref.ensures.value)),
    )

pub returns-in-Ok-clause-passes : goal.returns-in-Ok-clause-passes
unfolding pcs_shape
returns-in-Ok-clause-passes g c =
    let left = counts_left c.absorb_claims.new.described in (
      (λ ok. (
        left,
        sym (c.new-described.ensures.counts ∙ ap (λ commitments. widths (nested commitments)) c.deref.ensures.value)
            ∙ c.in-Ok.ensures.compared.counts ∙ ap (λ counts. counts ++ left) (sym (claims_counted c.args.claims.now)),
      )),
      λ begins. refl,
    )

pub returns-in-Ok-clause-steps : goal.returns-in-Ok-clause-steps
unfolding pcs_shape
returns-in-Ok-clause-steps g c = λ left same.
    let d = g.EF.ExtensionField.DIMENSION in
    let others = batch_left d (pcs_shape c.args.self.now.shape) in
    let claimed = map length (lists_of_claims c.args.claims.now) in
    c.in-Ok.ensures.absorbed.turns (claim_turns d left ++ others)
    (c.requires.no_step_played
    ∙ ap (λ counts. claim_turns d counts ++ others) (same ∙ ap (λ counts. counts ++ left) (claims_counted c.args.claims.now))
    ∙ claims_both d claimed left others)

pub returns-in-Err-clause-fault : goal.returns-in-Err-clause-fault
unfolding pcs_shape
returns-in-Err-clause-fault g c =
    let claimed = map length (lists_of_claims c.args.claims.now) in
    subst (λ (counts : List ℕ). IsClaimFailure 0 (widths (pcs_shape c.args.self.now.shape).counts) counts c.in-Err.failure) (sym (claims_counted c.args.claims.now))
    (subst (λ (counts : List ℕ). IsClaimFailure 0 counts claimed c.in-Err.failure)
    (c.new-described.ensures.counts ∙ ap (λ commitments. widths (nested commitments)) c.deref.ensures.value)
    c.in-Err.ensures.fault)

pub returns-in-Err-clause-passes : goal.returns-in-Err-clause-passes
unfolding pcs_shape
returns-in-Err-clause-passes g c = (
  (λ none. cc),
  λ begins. absurd (fault_refused 0 _ _ c.in-Err.failure (returns-in-Err-clause-fault g c) begins),
)

pub returns-in-Ok-clause-whole : goal.returns-in-Ok-clause-whole
unfolding pcs_shape
returns-in-Ok-clause-whole g c = λ same.
    returns-in-Ok-clause-steps g c [] (ap widths (sym same) ∙ sym (append-nil (widths (counts_of_claims c.args.claims.now))))

pub returns-in-Err-clause-whole : goal.returns-in-Err-clause-whole
unfolding pcs_shape
returns-in-Err-clause-whole g c = λ same.
    absurd (fault_refused 0 _ _ c.in-Err.failure (returns-in-Err-clause-fault g c)
    ([], ap widths (sym same) ∙ sym (append-nil (widths (counts_of_claims c.args.claims.now)))))
