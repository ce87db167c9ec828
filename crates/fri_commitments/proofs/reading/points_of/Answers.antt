use Rattle.std.proofs.lemmas.Result.{IfOk-from_err}
use Rattle.fri_numbers.proofs.Failed.{malformed_part, read_wants}
use Rattle.std.proofs.Common.{◌≢◌, [], All, map}
use Rattle.algebra.specs.Nested.{lists}
use Rattle.p3_fri_openings.proofs.First.{at_item}
use Rattle.fri_records.specs.declared.records.Batch.{Batch}
use Rattle.fri_numbers.specs.Shapes.{HasPointsBy}
use Rattle.fri_numbers.proofs.Images.{image_more, image_all, holds_more}
use Rattle.fri_commitments.proofs.reading.points_of.Goals as goal

pub loop-index-preserved : goal.loop-index-preserved
loop-index-preserved g c = record {
  some_points = holds_more (λ ps. All (λ zs. zs ≢ []) ps) (λ v. lists v.items) c.loop-index.all.items
      c.push.new.self.items c.in_ok-batch_points.field-0 c.in_ok-push.ensures.items
      c.loop-index.invariant.some_points c.in_ok-batch_points.ensures.some;
  numbers = image_more (map (map g.N.Numbered.numbers_of)) (λ v. lists v.items)
      (λ batch. map (λ m. lists m.points.items) batch.matrices.items) c.loop-index.all.items
      c.push.new.self.items c.args.batches.now c.loop-index.index c.in_ok-batch_points.field-0
      c.index-batches-index.result c.loop-index-test.true c.index-batches-index.is
      c.in_ok-push.ensures.items c.in_ok-batch_points.ensures.numbers c.loop-index.invariant.numbers;
}

pub returns-clause-points : goal.returns-clause-points
returns-clause-points g c = record {
  some_points = c.loop-index.invariant.some_points;
  numbers = image_all (λ bs. map (λ batch. map (λ m. lists m.points.items) batch.matrices.items) bs)
      c.args.batches.now c.loop-index.index c.loop-index-test.false c.loop-index.invariant.numbers;
}

pub returns-in_err-batch_points-clause-refused : goal.returns-in_err-batch_points-clause-refused
returns-in_err-batch_points-clause-refused g c =
    malformed_part _ _ _ _ c.from_residual-in_err-batch_points.ensures.1
    c.in_err-batch_points.ensures.refused
    (λ fails whole. fails (at_item (λ (b : Batch). All (HasPointsBy g.N.Numbered.IsPoint) b.matrices.items) c.args.batches.now
    c.loop-index.index c.index-batches-index.result c.loop-index-test.true c.index-batches-index.is
    whole))

-- where nothing is answered nothing is said of the answer
pub returns-in_err-all-clause-points : goal.returns-in_err-all-clause-points
returns-in_err-all-clause-points g c = IfOk-from_err c.from_residual.result _ c.from_residual.ensures.0

pub returns-in_err-all-clause-refused : goal.returns-in_err-all-clause-refused
returns-in_err-all-clause-refused g c = read_wants c.from_residual.result _ c.from_residual.ensures.1

pub returns-in_err-batch_points-clause-points : goal.returns-in_err-batch_points-clause-points
returns-in_err-batch_points-clause-points g c = IfOk-from_err c.from_residual-in_err-batch_points.result _ c.from_residual-in_err-batch_points.ensures.0

pub returns-in_err-push-clause-points : goal.returns-in_err-push-clause-points
returns-in_err-push-clause-points g c = IfOk-from_err c.from_residual-in_err-push.result _ c.from_residual-in_err-push.ensures.0

pub returns-in_err-push-clause-refused : goal.returns-in_err-push-clause-refused
returns-in_err-push-clause-refused g c = read_wants c.from_residual-in_err-push.result _ c.from_residual-in_err-push.ensures.1
