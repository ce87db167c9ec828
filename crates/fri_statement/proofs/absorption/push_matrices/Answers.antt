use Rattle.std.proofs.Common.{◌∷◌, [], ◌∙◌, ap, map}
use Rattle.std.proofs.lemmas.List.Concat.{flat_map_single}
use Rattle.p3_challenger_fs.specs.Separator.{description}
use Rattle.fri_statement.specs.Stated.{opened_matrix}
use Rattle.fri_statement.specs.Statement.{matrix_label}
use Rattle.fri_statement.proofs.Pushes.{with_labels, no_labels, described_more, described_all}
use Rattle.fri_statement.proofs.absorption.push_matrices.Invariants.{fields}
use Rattle.fri_statement.proofs.absorption.push_matrices.Goals as goal

pub loop-matrix-init : goal.loop-matrix-init
loop-matrix-init g c = no_labels (description c.args.separator.now)

pub loop-matrix-preserved : goal.loop-matrix-preserved
loop-matrix-preserved g c = described_more (λ m. matrix_label m ∷ [])
    (opened_matrix (fields g) (λ d. d.shift) (λ d. d.log_size)) c.args.matrices.now
    (description c.args.separator.now) (description c.loop-matrix.separator) (description c.instance.new.self)
    c.loop-matrix.matrix-index c.matrix-item.result c.loop-matrix-test.true c.matrix-item.is c.loop-matrix.invariant
    (c.in_ok-instance.ensures.ok
    ∙ ap (λ label. with_labels (description c.loop-matrix.separator) (label ∷ [])) (c.deref.ensures.value ∙ c.in_ok-label.ensures))

pub returns : goal.returns
returns g c =
    let opened = opened_matrix (fields g) (λ d. d.shift) (λ d. d.log_size) in
    described_all (λ m. matrix_label m ∷ []) opened c.args.matrices.now (description c.args.separator.now)
    (description c.loop-matrix.separator) c.loop-matrix.matrix-index c.loop-matrix-test.false c.loop-matrix.invariant
    ∙ ap (λ ls. with_labels (description c.args.separator.now) ls)
    (flat_map_single matrix_label (map opened c.args.matrices.now))
