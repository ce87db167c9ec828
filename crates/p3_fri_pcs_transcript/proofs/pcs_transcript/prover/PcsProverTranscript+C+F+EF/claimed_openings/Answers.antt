use Rattle.std.proofs.Common.{◌++◌, length, map, sym, ap, ◌∙◌}
use Rattle.p3_fri_pcs_transcript.specs.Counts.{lists_of_values}
use Rattle.p3_fri_pcs_transcript.specs.Shapes.{pcs_shape}
use Rattle.p3_fri_pcs_transcript.specs.Steps.{widths}
use Rattle.p3_fri_pcs_transcript.specs.Turns.{claim_turns}
use Rattle.p3_fri_pcs_transcript.proofs.ClaimTurns.{batch_left}
use Rattle.p3_fri_pcs_transcript.proofs.Widths.{values_counted}
use Rattle.p3_fri_pcs_transcript.proofs.pcs_transcript.prover.PcsProverTranscript+C+F+EF.claimed_openings.Goals as goal

pub absorb_values-requires : goal.absorb_values-requires
absorb_values-requires g c =
    let d = g.EF.ExtensionField.DIMENSION in
    let others = batch_left d (pcs_shape c.args.self.now.shape) in
    record {
      next = (
        others,
        c.requires.no_step_played
            ∙ ap (λ counts. claim_turns d (widths counts) ++ others) (sym c.requires.described)
            ∙ ap (λ counts. claim_turns d counts ++ others) (values_counted c.args.opened_values.now.items)
            ∙ ap (λ commitments. claim_turns d (map length (lists_of_values commitments)) ++ others) (sym c.deref.ensures.value),
      );
    }

pub returns-clause-steps : goal.returns-clause-steps
unfolding pcs_shape
returns-clause-steps g c =
    let d = g.EF.ExtensionField.DIMENSION in
    let others = batch_left d (pcs_shape c.args.self.now.shape) in
    c.absorb_values.ensures.turns others
    (c.requires.no_step_played
    ∙ ap (λ counts. claim_turns d (widths counts) ++ others) (sym c.requires.described)
    ∙ ap (λ counts. claim_turns d counts ++ others) (values_counted c.args.opened_values.now.items)
    ∙ ap (λ commitments. claim_turns d (map length (lists_of_values commitments)) ++ others) (sym c.deref.ensures.value))
