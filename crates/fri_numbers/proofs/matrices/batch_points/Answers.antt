use Rattle.std.proofs.lemmas.Result.{IfOk-from_err}
use Rattle.fri_numbers.proofs.Failed.{read_wants, malformed_part}
use Rattle.std.proofs.Common.{◌≡◌, ◌≢◌, ◌<◌, ◌≤◌, [], All, map, length, get_or, subst, sym}
use Rattle.algebra.specs.Nested.{lists}
use Rattle.p3_fri_openings.proofs.First.{at_item}
use Rattle.fri_numbers.specs.Shapes.{HasPointsBy}
use Rattle.fri_numbers.proofs.Images.{image_more, image_all, holds_more}
use Rattle.fri_numbers.proofs.matrices.batch_points.Goals as goal

pub loop-index-preserved : goal.loop-index-preserved
loop-index-preserved g c =
    let whole = c.deref-matrix-items.ensures.value in
    let i = c.loop-index.index in
    record {
      some = holds_more (λ zs. zs ≢ []) (λ v. v.items) c.loop-index.all.items c.push.new.self.items
          c.in_ok-points.field-0 c.in_ok-push.ensures.items c.loop-index.invariant.some
          c.in_ok-points.ensures.some;
      numbers = image_more (map g.N.Numbered.numbers_of) (λ v. v.items) (λ m. lists m.points.items)
          c.loop-index.all.items c.push.new.self.items c.args.batch.now.matrices.items i
          c.in_ok-points.field-0 c.matrix-item.result
          (subst (λ ys. i < length ys) whole c.loop-index-test.true)
          (subst (λ ys. c.matrix-item.result ≡ get_or ys i c.matrix-item.result) whole c.matrix-item.is)
          c.in_ok-push.ensures.items c.in_ok-points.ensures.numbers c.loop-index.invariant.numbers;
    }

pub returns-clause-numbers : goal.returns-clause-numbers
returns-clause-numbers g c =
    image_all (λ ys. map (λ m. lists m.points.items) ys) c.args.batch.now.matrices.items
    c.loop-index.index
    (subst (λ ys. length ys ≤ c.loop-index.index) c.deref-matrix-items.ensures.value
    c.loop-index-test.false)
    c.loop-index.invariant.numbers

pub returns-in_err-points-clause-refused : goal.returns-in_err-points-clause-refused
returns-in_err-points-clause-refused g c =
    malformed_part _ _ _ _ c.from_residual-in_err-points.ensures.1 c.in_err-points.ensures.refused
    (λ fails whole. fails (at_item (HasPointsBy g.N.Numbered.IsPoint) c.deref-matrix-items.result.now c.loop-index.index
    c.matrix-item.result c.loop-index-test.true c.matrix-item.is
    (subst (λ ms. All (HasPointsBy g.N.Numbered.IsPoint) ms) (sym c.deref-matrix-items.ensures.value) whole)))

-- where nothing is answered nothing is said of the answer
pub returns-in_err-all-clause-some : goal.returns-in_err-all-clause-some
returns-in_err-all-clause-some g c = IfOk-from_err c.from_residual.result _ c.from_residual.ensures.0

pub returns-in_err-all-clause-numbers : goal.returns-in_err-all-clause-numbers
returns-in_err-all-clause-numbers g c = IfOk-from_err c.from_residual.result _ c.from_residual.ensures.0

pub returns-in_err-all-clause-refused : goal.returns-in_err-all-clause-refused
returns-in_err-all-clause-refused g c = read_wants c.from_residual.result _ c.from_residual.ensures.1

pub returns-in_err-points-clause-some : goal.returns-in_err-points-clause-some
returns-in_err-points-clause-some g c = IfOk-from_err c.from_residual-in_err-points.result _ c.from_residual-in_err-points.ensures.0

pub returns-in_err-points-clause-numbers : goal.returns-in_err-points-clause-numbers
returns-in_err-points-clause-numbers g c = IfOk-from_err c.from_residual-in_err-points.result _ c.from_residual-in_err-points.ensures.0

pub returns-in_err-push-clause-some : goal.returns-in_err-push-clause-some
returns-in_err-push-clause-some g c = IfOk-from_err c.from_residual-in_err-push.result _ c.from_residual-in_err-push.ensures.0

pub returns-in_err-push-clause-numbers : goal.returns-in_err-push-clause-numbers
returns-in_err-push-clause-numbers g c = IfOk-from_err c.from_residual-in_err-push.result _ c.from_residual-in_err-push.ensures.0

pub returns-in_err-push-clause-refused : goal.returns-in_err-push-clause-refused
returns-in_err-push-clause-refused g c = read_wants c.from_residual-in_err-push.result _ c.from_residual-in_err-push.ensures.1
