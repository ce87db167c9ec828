use Rattle.std.proofs.Common.{[], ◌∙◌, ap, codes}
use Rattle.p3_fri_pcs_transcript.specs.Shapes.{pcs_shape}
use Rattle.p3_fri_pcs_transcript.specs.Steps.{pcs_labels}
use Rattle.p3_fri_pcs_transcript.proofs.PcsSteps.{grouped}
use Rattle.p3_fri_pcs_transcript.proofs.pcs_transcript.shape.PcsShape.domain_separator.Goals as goal

pub returns : goal.returns
unfolding pcs_labels pcs_shape
returns g c =
    grouped _ _ 1 (codes "p3-fri-pcs") _ _
    (c.new-separator.ensures ∙ ap (λ steps. record { version = 1; name = codes "p3-fri-pcs"; steps = steps; labels = [] }) c.in_ok-pattern.ensures)
    (rw c.deref.ensures.value at c.in_ok-push_grouping.ensures)
