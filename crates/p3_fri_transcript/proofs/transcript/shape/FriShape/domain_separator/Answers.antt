use Rattle.std.proofs.Common.{[], ◌∙◌, ap, codes}
use Rattle.p3_fri_transcript.specs.Shapes.{fri_shape}
use Rattle.p3_fri_transcript.specs.Steps.{fri_labels}
use Rattle.p3_fri_transcript.proofs.StepLists.{labelled}
use Rattle.std.proofs.lemmas.Result.{IfOk-from_err}
use Rattle.p3_fri_transcript.proofs.transcript.shape.FriShape.domain_separator.Goals as goal

pub returns : goal.returns
unfolding fri_labels fri_shape
returns g c =
    let shape = c.args.self.now in
    labelled _ _ _ _ 1 (codes "p3-fri") _ shape.log_blowup shape.max_log_arity shape.log_arities.items
    (c.new-separator.ensures ∙ ap (λ steps. record { version = 1; name = codes "p3-fri"; steps = steps; labels = [] }) c.in_ok-pattern.ensures)
    c.in_ok-push_label.ensures
    c.in_ok-push_label-2.ensures
    (rw c.deref.ensures.value at c.in_ok-push_labels.ensures)

-- where nothing is answered nothing is said of the answer
pub returns-in_err-push_labels : goal.returns-in_err-push_labels
returns-in_err-push_labels g c =
    IfOk-from_err c.from_residual-in_err-push_labels.result _ c.from_residual-in_err-push_labels.ensures.0
