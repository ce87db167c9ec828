use Rattle.std.proofs.Common.{sym, ap, ap₂, ◌∙◌, subst}
use Rattle.std.proofs.lemmas.Result.{err_from_is_err_and}
use Rattle.p3_fri_relation.specs.Views.{parameters_of}
use Rattle.p3_fri_openings.specs.Rounds.{ask}
use Rattle.p3_fri_hiding_openings.specs.Opening.{CanHide, MatrixRefusal}
use Rattle.p3_fri_hiding_openings.proofs.Tested.{asked_more, asked_first, asked_end}
use Rattle.p3_fri_hiding_openings.proofs.request_checks.check_round.Invariants.{fields_of}
use Rattle.p3_fri_hiding_openings.proofs.request_checks.check_round.Goals as goal

pub returns-in_err-check_matrix : goal.returns-in_err-check_matrix
returns-in_err-check_matrix g c =
    let p = parameters_of c.args.params.now in
    let r = c.args.num_random_codewords in
    let m = c.index-round-matrix-in-loop-matrix.result in
    let points = c.index-round-matrix.result in
    let e = c.in_err-check_matrix.field-0.0 in
    let slice = c.as_slice-points.ensures.value
    ∙ ap (λ v. v.items) (sym c.index-round-matrix.is) in
    let made = err_from_is_err_and c.from_residual.result c.from_residual.ensures.1 in
    rw (made.1, made.2) (record {
      matrix = c.loop-matrix.matrix;
      first = asked_first c.args.round.now c.requires.points
          c.loop-matrix.matrix m points c.loop-matrix-test.true
          c.index-round-matrix-in-loop-matrix.is c.index-round-matrix.is
          (CanHide (fields_of g) p r) (MatrixRefusal (fields_of g) p r e) c.loop-matrix.invariant
          (subst (λ a. MatrixRefusal (fields_of g) p r e a)
          (ap₂ ask (sym c.index-round-matrix-in-loop-matrix.is) slice)
          c.in_err-check_matrix.ensures);
    })

pub loop-matrix-preserved : goal.loop-matrix-preserved
loop-matrix-preserved g c =
    let p = parameters_of c.args.params.now in
    let r = c.args.num_random_codewords in
    let slice = c.as_slice-points.ensures.value
    ∙ ap (λ v. v.items) (sym c.index-round-matrix.is) in
    asked_more c.args.round.now c.requires.points c.loop-matrix.matrix
    c.index-round-matrix-in-loop-matrix.result c.index-round-matrix.result
    c.loop-matrix-test.true c.index-round-matrix-in-loop-matrix.is c.index-round-matrix.is
    (CanHide (fields_of g) p r) c.loop-matrix.invariant
    (subst (λ a. CanHide (fields_of g) p r a)
    (ap₂ ask (sym c.index-round-matrix-in-loop-matrix.is) slice)
    c.in_ok-check_matrix.ensures)

pub returns : goal.returns
returns g c =
    asked_end c.args.round.now c.requires.points c.loop-matrix.matrix
    (CanHide (fields_of g) (parameters_of c.args.params.now) c.args.num_random_codewords)
    c.loop-matrix-test.false c.loop-matrix.invariant
