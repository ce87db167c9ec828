use Rattle.std.proofs.lemmas.Result.{IfOk-from_err}
use Rattle.std.proofs.lemmas.List.Elements.{All-push}
use Rattle.std.proofs.Common.{◌≡◌, ◌+◌, ◌<◌, ◌≤◌, All, take, length, get_or, subst, sym}
use Rattle.std.specs.List.{AllZip}
use Rattle.p3_fri_openings.proofs.First.{one_more, to_the_end, at_item}
use Rattle.algebra.specs.Field.{multiple}
use Rattle.fri_schemes.specs.Rows.{FitsRows}
use Rattle.fri_numbers.specs.Listed.{IsListedBy}
use Rattle.fri_numbers.specs.Shapes.{IsMatrixBelow}
use Rattle.fri_numbers.proofs.Kept.{pairs_more, pairs_done}
use Rattle.fri_numbers.proofs.Failed.{malformed_part, read_wants}
use Rattle.fri_numbers.proofs.matrices.batch_evaluations.Goals as goal

pub returns-in_err-evaluations-clause-refused : goal.returns-in_err-evaluations-clause-refused
returns-in_err-evaluations-clause-refused g c =
    malformed_part _ _ _ _ c.from_residual-in_err-evaluations.ensures.1
    c.in_err-evaluations.ensures.refused
    (λ fails whole. fails (at_item (IsMatrixBelow g.F.PrimeField64.ORDER_U64 g.F.TwoAdicField.TWO_ADICITY c.args.hides c.args.log_blowup) c.deref-matrix-items.result.now
    c.loop-index.index c.matrix-item.result c.loop-index-test.true c.matrix-item.is
    (subst (λ ms. All (IsMatrixBelow g.F.PrimeField64.ORDER_U64 g.F.TwoAdicField.TWO_ADICITY c.args.hides c.args.log_blowup) ms) (sym c.deref-matrix-items.ensures.value) whole)))

pub loop-index-preserved : goal.loop-index-preserved
loop-index-preserved g c =
    let ms = c.args.batch.now.matrices.items in
    let whole = c.deref-matrix-items.ensures.value in
    let below = subst (λ ys. c.loop-index.index < length ys) whole c.loop-index-test.true in
    let item = subst (λ ys. c.matrix-item.result ≡ get_or ys c.loop-index.index c.matrix-item.result) whole c.matrix-item.is in
    record {
      fit = subst (λ es. All (λ e. FitsRows g.F.TwoAdicField.TWO_ADICITY c.args.hides c.args.log_blowup e.0.log_size e.1) es)
          (sym c.in_ok-push.ensures.items)
          (All-push (λ e. FitsRows g.F.TwoAdicField.TWO_ADICITY c.args.hides c.args.log_blowup e.0.log_size e.1) c.loop-index.all.items
          c.in_ok-evaluations.field-0 c.loop-index.invariant.fit c.in_ok-evaluations.ensures.fits);
      listed = subst (λ es. AllZip (IsListedBy (λ n. multiple g.F.Field.ops n) (λ d. g.F.PrimeField64.canonical d.shift) (λ d. d.log_size) c.args.hides) es
          (take (c.loop-index.index + 1) ms)) (sym c.in_ok-push.ensures.items)
          (pairs_more (IsListedBy (λ n. multiple g.F.Field.ops n) (λ d. g.F.PrimeField64.canonical d.shift) (λ d. d.log_size) c.args.hides) c.loop-index.all.items ms c.loop-index.index
          c.in_ok-evaluations.field-0 c.matrix-item.result below item c.loop-index.invariant.listed
          c.in_ok-evaluations.ensures.listed);
      well_formed = one_more (IsMatrixBelow g.F.PrimeField64.ORDER_U64 g.F.TwoAdicField.TWO_ADICITY c.args.hides c.args.log_blowup) ms c.loop-index.index c.matrix-item.result below item
          c.loop-index.invariant.well_formed c.in_ok-evaluations.ensures.well_formed;
    }

pub returns-clause-listed : goal.returns-clause-listed
returns-clause-listed g c =
    pairs_done (IsListedBy (λ n. multiple g.F.Field.ops n) (λ d. g.F.PrimeField64.canonical d.shift) (λ d. d.log_size) c.args.hides) c.loop-index.all.items c.args.batch.now.matrices.items
    c.loop-index.index (subst (λ ys. length ys ≤ c.loop-index.index) c.deref-matrix-items.ensures.value c.loop-index-test.false)
    c.loop-index.invariant.listed

pub returns-clause-well_formed : goal.returns-clause-well_formed
returns-clause-well_formed g c =
    to_the_end (IsMatrixBelow g.F.PrimeField64.ORDER_U64 g.F.TwoAdicField.TWO_ADICITY c.args.hides c.args.log_blowup) c.args.batch.now.matrices.items c.loop-index.index
    (subst (λ ys. length ys ≤ c.loop-index.index) c.deref-matrix-items.ensures.value c.loop-index-test.false)
    c.loop-index.invariant.well_formed

-- where nothing is answered nothing is said of the answer
pub returns-in_err-all-clause-fit : goal.returns-in_err-all-clause-fit
returns-in_err-all-clause-fit g c = IfOk-from_err c.from_residual.result _ c.from_residual.ensures.0

pub returns-in_err-all-clause-listed : goal.returns-in_err-all-clause-listed
returns-in_err-all-clause-listed g c = IfOk-from_err c.from_residual.result _ c.from_residual.ensures.0

pub returns-in_err-all-clause-well_formed : goal.returns-in_err-all-clause-well_formed
returns-in_err-all-clause-well_formed g c = IfOk-from_err c.from_residual.result _ c.from_residual.ensures.0

pub returns-in_err-all-clause-refused : goal.returns-in_err-all-clause-refused
returns-in_err-all-clause-refused g c = read_wants c.from_residual.result _ c.from_residual.ensures.1

pub returns-in_err-evaluations-clause-fit : goal.returns-in_err-evaluations-clause-fit
returns-in_err-evaluations-clause-fit g c = IfOk-from_err c.from_residual-in_err-evaluations.result _ c.from_residual-in_err-evaluations.ensures.0

pub returns-in_err-evaluations-clause-listed : goal.returns-in_err-evaluations-clause-listed
returns-in_err-evaluations-clause-listed g c = IfOk-from_err c.from_residual-in_err-evaluations.result _ c.from_residual-in_err-evaluations.ensures.0

pub returns-in_err-evaluations-clause-well_formed : goal.returns-in_err-evaluations-clause-well_formed
returns-in_err-evaluations-clause-well_formed g c = IfOk-from_err c.from_residual-in_err-evaluations.result _ c.from_residual-in_err-evaluations.ensures.0

pub returns-in_err-push-clause-fit : goal.returns-in_err-push-clause-fit
returns-in_err-push-clause-fit g c = IfOk-from_err c.from_residual-in_err-push.result _ c.from_residual-in_err-push.ensures.0

pub returns-in_err-push-clause-listed : goal.returns-in_err-push-clause-listed
returns-in_err-push-clause-listed g c = IfOk-from_err c.from_residual-in_err-push.result _ c.from_residual-in_err-push.ensures.0

pub returns-in_err-push-clause-well_formed : goal.returns-in_err-push-clause-well_formed
returns-in_err-push-clause-well_formed g c = IfOk-from_err c.from_residual-in_err-push.result _ c.from_residual-in_err-push.ensures.0

pub returns-in_err-push-clause-refused : goal.returns-in_err-push-clause-refused
returns-in_err-push-clause-refused g c = read_wants c.from_residual-in_err-push.result _ c.from_residual-in_err-push.ensures.1
