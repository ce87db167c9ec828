use Rattle.std.proofs.Common.{◌++◌, ◌∷◌, [], ◌+◌, take, drop, sym, ap, ◌∙◌, append_assoc}
use Rattle.std.proofs.lemmas.List.{append-nil, take_all}
use Rattle.algebra.specs.Nested.{lists}
use Rattle.p3_fri_pcs_transcript.specs.Counts.{lists_in_matrices, lists_of_values}
use Rattle.p3_fri_pcs_transcript.proofs.Comparisons.{taken_item, about_item, about_lists, part_within, whole_entry}
use Rattle.p3_fri_pcs_transcript.proofs.Progress.{claim_is_next, absorbs_more, absorbs_equal}
use Rattle.p3_fri_pcs_transcript.proofs.pcs_transcript.prover.absorb_values.Goals as goal

pub observe_extensions-requires : goal.observe_extensions-requires
observe_extensions-requires g c =
    let k = c.loop-matrices.matrices-index in
    let i = c.loop-points.points-index in
    let j = c.loop-values.values-index in
    let commitments = c.args.commitments.now in
    let matrices = c.deref-points-items.result.now in
    let points = c.deref-values-items.result.now in
    let values = c.values-item.result.items in
    let first = lists_of_values (take k commitments) in
    let second = lists_in_matrices (take i matrices) in
    let third = lists (take j points) in
    let after_commitment = lists_of_values (drop (k + 1) commitments) in
    let after_matrix = lists_in_matrices (drop (i + 1) matrices) in
    let after_point = lists (drop (j + 1) points) in
    let commitment = about_lists (λ item. lists_in_matrices item.items) commitments k c.matrices-item.result c.loop-matrices-test.true c.matrices-item.is
    ∙ ap (λ items. first ++ lists_in_matrices items ++ after_commitment) (sym c.deref-points-items.ensures.value) in
    let matrix = about_lists (λ item. lists item.items) matrices i c.points-item.result c.loop-points-test.true c.points-item.is
    ∙ ap (λ items. second ++ lists items ++ after_matrix) (sym c.deref-values-items.ensures.value) in
    let point = about_item (λ item. item.items) points j c.values-item.result c.loop-values-test.true c.values-item.is in
    record {
      next = claim_is_next g.C.CanObserve.observed g.EF.ExtensionField.coefficients g.EF.ExtensionField.DIMENSION
          c.args.script.now c.loop-values.script c.args.challenger.now c.loop-values.challenger (first ++ second ++ third) (lists_of_values commitments)
          (after_point ++ (after_matrix ++ after_commitment)) c.deref.result.now values c.requires.next.0 c.loop-values.invariant c.deref.ensures.value
          (part_within _ (first ++ second) (lists points) (after_matrix ++ after_commitment) third (values ∷ []) after_point
          (part_within _ first (lists_in_matrices matrices) after_commitment second (lists points) after_matrix commitment matrix) point)
          c.requires.next.1;
    }

pub loop-values-preserved : goal.loop-values-preserved
loop-values-preserved g c =
    let here = c.loop-values in
    let points = c.deref-values-items.result.now in
    let values = c.deref.result.now in
    let before = lists_of_values (take c.loop-matrices.matrices-index c.args.commitments.now) ++ lists_in_matrices (take c.loop-points.points-index c.deref-points-items.result.now) in
    let taken = lists (take here.values-index points) in
    absorbs_more g.C.CanObserve.observed g.EF.ExtensionField.coefficients g.EF.ExtensionField.DIMENSION
    c.args.script.now here.script c.observe_extensions.new.self c.args.challenger.now here.challenger c.observe_extensions.new.challenger
    (before ++ taken) (before ++ lists (take (here.values-index + 1) points)) values here.invariant
    c.observe_extensions.ensures.state c.observe_extensions.ensures.steps
    (ap (λ list. before ++ list)
    (taken_item (λ item. item.items) points here.values-index c.values-item.result c.loop-values-test.true c.values-item.is
    ∙ ap (λ list. taken ++ list ∷ []) (sym c.deref.ensures.value))
    ∙ sym (append_assoc before taken (values ∷ [])))

pub loop-points-init : goal.loop-points-init
loop-points-init g c = absorbs_equal c.loop-matrices.invariant (sym (append-nil _))

pub loop-values-init : goal.loop-values-init
loop-values-init g c = absorbs_equal c.loop-points.invariant (sym (append-nil _))

pub loop-points-preserved : goal.loop-points-preserved
loop-points-preserved g c =
    let first = lists_of_values (take c.loop-matrices.matrices-index c.args.commitments.now) in
    absorbs_equal c.loop-values.invariant
    (whole_entry (λ item. lists item.items) (λ points. lists points) first
    c.deref-points-items.result.now c.loop-points.points-index c.points-item.result c.deref-values-items.result.now c.loop-values.values-index
    c.loop-points-test.true c.points-item.is c.loop-values-test.false (ap (λ points. lists points) c.deref-values-items.ensures.value))

pub loop-matrices-preserved : goal.loop-matrices-preserved
loop-matrices-preserved g c =
    absorbs_equal c.loop-points.invariant
    (whole_entry (λ item. lists_in_matrices item.items) (λ matrices. lists_in_matrices matrices) []
    c.args.commitments.now c.loop-matrices.matrices-index c.matrices-item.result c.deref-points-items.result.now c.loop-points.points-index
    c.loop-matrices-test.true c.matrices-item.is c.loop-points-test.false (ap (λ matrices. lists_in_matrices matrices) c.deref-points-items.ensures.value))

pub returns : goal.returns
returns g c =
    absorbs_equal c.loop-matrices.invariant
    (ap (λ commitments. lists_of_values commitments) (take_all c.loop-matrices.matrices-index c.args.commitments.now c.loop-matrices-test.false))
