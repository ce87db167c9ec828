use Rattle.std.proofs.Common.{◌++◌, ◌∷◌, [], ◌∙◌, ap, map, sym}
use Rattle.std.proofs.lemmas.List.{length-map}
use Rattle.p3_challenger_fs.specs.Pattern.{number_bytes}
use Rattle.p3_challenger_fs.specs.Separator.{description}
use Rattle.fri_statement.specs.Stated.{opened_matrix, opened_commitment}
use Rattle.fri_statement.specs.Statement.{matrix_label, commitment_label, commitment_labels}
use Rattle.fri_statement.proofs.Pushes.{with_labels, no_labels, labels_more, described_more, described_all}
use Rattle.fri_statement.proofs.absorption.push_commitments.Invariants.{fields}
use Rattle.fri_statement.proofs.absorption.push_commitments.Goals as goal

pub loop-commitment-init : goal.loop-commitment-init
loop-commitment-init g c = no_labels (description c.args.separator.now)

pub loop-commitment-preserved : goal.loop-commitment-preserved
loop-commitment-preserved g c =
    let before = description c.loop-commitment.separator in
    let stated = c.commitment-item.result in
    let opened = opened_matrix (fields g) (λ d. d.shift) (λ d. d.log_size) in
    let one = opened_commitment (fields g) (λ d. d.shift) (λ d. d.log_size) stated in
    described_more commitment_labels (opened_commitment (fields g) (λ d. d.shift) (λ d. d.log_size)) c.args.commitments.now
    (description c.args.separator.now) before (description c.push_matrices.new.separator)
    c.loop-commitment.commitment-index stated c.loop-commitment-test.true c.commitment-item.is c.loop-commitment.invariant
    (labels_more before (description c.instance.new.self) (description c.push_matrices.new.separator)
    (commitment_label one ∷ []) (map matrix_label one.matrices)
    (c.in_ok-instance.ensures.ok ∙ ap (λ label. with_labels before (label ∷ []))
    (c.deref.ensures.value ∙ c.in_ok-label.ensures
    ∙ ap (λ n. stated.commitment ++ number_bytes n)
    (c.len-count.ensures ∙ stated.matrices.ok.0 ∙ sym (length-map stated.matrices.items opened))))
    (c.in_ok-push_matrices.ensures
    ∙ ap (λ ms. with_labels (description c.instance.new.self) (map matrix_label (map opened ms))) c.deref-in-loop-commitment.ensures.value))

pub returns : goal.returns
returns g c =
    described_all commitment_labels (opened_commitment (fields g) (λ d. d.shift) (λ d. d.log_size))
    c.args.commitments.now (description c.args.separator.now)
    (description c.loop-commitment.separator) c.loop-commitment.commitment-index c.loop-commitment-test.false c.loop-commitment.invariant
