use Rattle.std.proofs.Common.{◌++◌, ◌∷◌, [], ◌+◌, length, take, drop, sym, ap, ◌∙◌, append_assoc}
use Rattle.std.proofs.lemmas.List.{append-nil, take_all}
use Rattle.p3_fri_pcs_transcript.specs.Counts.{claimed_lists_at_points, claimed_lists_in_matrices, lists_of_claims}
use Rattle.p3_fri_pcs_transcript.proofs.Comparisons.{taken_item, about_item, about_lists, part_within, whole_entry, fault_after}
use Rattle.p3_fri_pcs_transcript.proofs.Progress.{count_is_next, progress_more, progress_equal}
use Rattle.p3_fri_pcs_transcript.proofs.pcs_transcript.claims.absorb_claims.Goals as goal

pub observe_extensions-requires : goal.observe_extensions-requires
observe_extensions-requires g c =
    record { next = count_is_next c.compare.new.self (length c.as_slice-values.result.now) c.loop-point.invariant c.in-Ok.ensures.counts c.requires.next }

pub returns-in-Err-clause-fault : goal.returns-in-Err-clause-fault
returns-in-Err-clause-fault g c =
    let k = c.loop-claim.claim-index in
    let i = c.loop-matrix.matrix-index in
    let j = c.loop-point.point-index in
    let claims = c.args.claims.now in
    let matrices = c.deref-matrix-items.result.now in
    let points = c.deref-point-items.result.now in
    let values = c.as_slice-values.result.now in
    let first = lists_of_claims (take k claims) in
    let second = claimed_lists_in_matrices (take i matrices) in
    let third = claimed_lists_at_points (take j points) in
    let after_claim = lists_of_claims (drop (k + 1) claims) in
    let after_matrix = claimed_lists_in_matrices (drop (i + 1) matrices) in
    let after_point = claimed_lists_at_points (drop (j + 1) points) in
    let claim = about_lists (λ item. claimed_lists_in_matrices item.matrices.items) claims k c.claim-item.result c.loop-claim-test.true c.claim-item.is
    ∙ ap (λ items. first ++ claimed_lists_in_matrices items ++ after_claim) (sym c.deref-matrix-items.ensures.value) in
    let matrix = about_lists (λ item. claimed_lists_at_points item.points.items) matrices i c.matrix-item.result c.loop-matrix-test.true c.matrix-item.is
    ∙ ap (λ items. second ++ claimed_lists_at_points items ++ after_matrix) (sym c.deref-point-items.ensures.value) in
    let point = about_item (λ item. item.values.items) points j c.point-item.result c.loop-point-test.true c.point-item.is
    ∙ ap (λ list. third ++ (list ∷ []) ++ after_point) (sym c.as_slice-values.ensures.value) in
    fault_after c.args.described.now c.loop-point.described (first ++ second ++ third) (values ∷ []) (after_point ++ (after_matrix ++ after_claim)) (lists_of_claims claims) c.in-Err.failure
    (part_within _ (first ++ second) (claimed_lists_at_points points) (after_matrix ++ after_claim) third (values ∷ []) after_point
    (part_within _ first (claimed_lists_in_matrices matrices) after_claim second (claimed_lists_at_points points) after_matrix claim matrix) point)
    c.loop-point.invariant.compared c.in-Err.ensures.fault 0 c.requires.first

pub loop-point-preserved : goal.loop-point-preserved
loop-point-preserved g c =
    let here = c.loop-point in
    let points = c.deref-point-items.result.now in
    let values = c.as_slice-values.result.now in
    let before = lists_of_claims (take c.loop-claim.claim-index c.args.claims.now) ++ claimed_lists_in_matrices (take c.loop-matrix.matrix-index c.deref-matrix-items.result.now) in
    let taken = claimed_lists_at_points (take here.point-index points) in
    progress_more g.C.CanObserve.observed g.EF.ExtensionField.coefficients g.EF.ExtensionField.DIMENSION
    c.args.described.now here.described c.compare.new.self c.args.script.now here.script c.observe_extensions.new.self c.args.challenger.now here.challenger c.observe_extensions.new.challenger
    (before ++ taken) (before ++ claimed_lists_at_points (take (here.point-index + 1) points)) values here.invariant
    c.in-Ok.ensures.counts c.in-Ok.ensures.place c.observe_extensions.ensures.state c.observe_extensions.ensures.steps
    (ap (λ lists. before ++ lists)
    (taken_item (λ item. item.values.items) points here.point-index c.point-item.result c.loop-point-test.true c.point-item.is
    ∙ ap (λ list. taken ++ list ∷ []) (sym c.as_slice-values.ensures.value))
    ∙ sym (append_assoc before taken (values ∷ [])))

pub loop-matrix-init : goal.loop-matrix-init
loop-matrix-init g c = progress_equal c.loop-claim.invariant (sym (append-nil _))

pub loop-point-init : goal.loop-point-init
loop-point-init g c = progress_equal c.loop-matrix.invariant (sym (append-nil _))

pub loop-matrix-preserved : goal.loop-matrix-preserved
loop-matrix-preserved g c =
    let first = lists_of_claims (take c.loop-claim.claim-index c.args.claims.now) in
    progress_equal c.loop-point.invariant
    (whole_entry (λ item. claimed_lists_at_points item.points.items) (λ points. claimed_lists_at_points points) first
    c.deref-matrix-items.result.now c.loop-matrix.matrix-index c.matrix-item.result c.deref-point-items.result.now c.loop-point.point-index
    c.loop-matrix-test.true c.matrix-item.is c.loop-point-test.false (ap (λ points. claimed_lists_at_points points) c.deref-point-items.ensures.value))

pub loop-claim-preserved : goal.loop-claim-preserved
loop-claim-preserved g c =
    progress_equal c.loop-matrix.invariant
    (whole_entry (λ item. claimed_lists_in_matrices item.matrices.items) (λ matrices. claimed_lists_in_matrices matrices) []
    c.args.claims.now c.loop-claim.claim-index c.claim-item.result c.deref-matrix-items.result.now c.loop-matrix.matrix-index
    c.loop-claim-test.true c.claim-item.is c.loop-matrix-test.false (ap (λ matrices. claimed_lists_in_matrices matrices) c.deref-matrix-items.ensures.value))

pub returns-clause-compared : goal.returns-clause-compared
returns-clause-compared g c =
    (progress_equal c.loop-claim.invariant
    (ap (λ claims. lists_of_claims claims) (take_all c.loop-claim.claim-index c.args.claims.now c.loop-claim-test.false))).compared

pub returns-clause-absorbed : goal.returns-clause-absorbed
returns-clause-absorbed g c =
    (progress_equal c.loop-claim.invariant
    (ap (λ claims. lists_of_claims claims) (take_all c.loop-claim.claim-index c.args.claims.now c.loop-claim-test.false))).absorbed

-- where nothing is answered nothing is said of the answer
pub returns-in-Err-clause-absorbed : goal.returns-in-Err-clause-absorbed
returns-in-Err-clause-absorbed g c = tt

pub returns-in-Err-clause-compared : goal.returns-in-Err-clause-compared
returns-in-Err-clause-compared g c = tt
