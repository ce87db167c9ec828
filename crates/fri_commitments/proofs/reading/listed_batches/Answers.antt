use Rattle.std.proofs.lemmas.Result.{IfOk-from_err}
use Rattle.std.proofs.Common.{All, take, ◌+◌, refl, subst, sym}
use Rattle.std.specs.List.{AllZip}
use Rattle.std.proofs.lemmas.List.Elements.{All-push}
use Rattle.p3_fri_openings.proofs.First.{one_more, to_the_end, at_item}
use Rattle.fri_records.specs.declared.records.Batch.{Batch}
use Rattle.algebra.specs.Field.{multiple}
use Rattle.fri_schemes.specs.Rows.{FitsRows}
use Rattle.fri_commitments.specs.Committed.{ListsBy}
use Rattle.fri_numbers.specs.Shapes.{IsMatrixBelow}
use Rattle.fri_numbers.proofs.Failed.{malformed_part, read_wants}
use Rattle.fri_numbers.proofs.Kept.{pairs_more, pairs_done}
use Rattle.fri_commitments.proofs.reading.listed_batches.Goals as goal

pub loop-index-preserved : goal.loop-index-preserved
loop-index-preserved g c =
    let batch = c.index-batches-index.result in
    record {
      listed = subst (λ all. AllZip (ListsBy (λ n. multiple g.F.Field.ops n) (λ d. g.F.PrimeField64.canonical d.shift) (λ d. d.log_size) c.args.hides) all (take (c.loop-index.index + 1) c.args.batches.now))
          (sym c.in_ok-push.ensures.items)
          (pairs_more (ListsBy (λ n. multiple g.F.Field.ops n) (λ d. g.F.PrimeField64.canonical d.shift) (λ d. d.log_size) c.args.hides) c.loop-index.all.items c.args.batches.now c.loop-index.index
          _ batch c.loop-index-test.true c.index-batches-index.is c.loop-index.invariant.listed
          (record { evaluations = c.in_ok-batch_evaluations.ensures.listed; preprocessed = refl }));
      fit = subst (λ all. All (λ b. All (λ e. FitsRows g.F.TwoAdicField.TWO_ADICITY c.args.hides c.args.log_blowup e.0.log_size e.1) b.evaluations.items) all)
          (sym c.in_ok-push.ensures.items)
          (All-push (λ b. All (λ e. FitsRows g.F.TwoAdicField.TWO_ADICITY c.args.hides c.args.log_blowup e.0.log_size e.1) b.evaluations.items)
          c.loop-index.all.items _ c.loop-index.invariant.fit c.in_ok-batch_evaluations.ensures.fit);
      well_formed = one_more (λ (b : Batch). All (IsMatrixBelow g.F.PrimeField64.ORDER_U64 g.F.TwoAdicField.TWO_ADICITY c.args.hides c.args.log_blowup) b.matrices.items) c.args.batches.now
          c.loop-index.index batch c.loop-index-test.true c.index-batches-index.is
          c.loop-index.invariant.well_formed c.in_ok-batch_evaluations.ensures.well_formed;
    }

pub returns-in_err-batch_evaluations-clause-refused : goal.returns-in_err-batch_evaluations-clause-refused
returns-in_err-batch_evaluations-clause-refused g c =
    malformed_part _ _ _ _ c.from_residual-in_err-batch_evaluations.ensures.1
    c.in_err-batch_evaluations.ensures.refused
    (λ fails whole. fails (at_item (λ (b : Batch). All (IsMatrixBelow g.F.PrimeField64.ORDER_U64 g.F.TwoAdicField.TWO_ADICITY c.args.hides c.args.log_blowup) b.matrices.items) c.args.batches.now
    c.loop-index.index c.index-batches-index.result c.loop-index-test.true c.index-batches-index.is whole))

pub returns-clause-listed : goal.returns-clause-listed
returns-clause-listed g c =
    pairs_done (ListsBy (λ n. multiple g.F.Field.ops n) (λ d. g.F.PrimeField64.canonical d.shift) (λ d. d.log_size) c.args.hides) c.loop-index.all.items c.args.batches.now c.loop-index.index
    c.loop-index-test.false c.loop-index.invariant.listed

pub returns-clause-well_formed : goal.returns-clause-well_formed
returns-clause-well_formed g c =
    to_the_end (λ (b : Batch). All (IsMatrixBelow g.F.PrimeField64.ORDER_U64 g.F.TwoAdicField.TWO_ADICITY c.args.hides c.args.log_blowup) b.matrices.items) c.args.batches.now
    c.loop-index.index c.loop-index-test.false c.loop-index.invariant.well_formed

-- where nothing is answered nothing is said of the answer
pub returns-in_err-all-clause-listed : goal.returns-in_err-all-clause-listed
returns-in_err-all-clause-listed g c = IfOk-from_err c.from_residual.result _ c.from_residual.ensures.0

pub returns-in_err-all-clause-fit : goal.returns-in_err-all-clause-fit
returns-in_err-all-clause-fit g c = IfOk-from_err c.from_residual.result _ c.from_residual.ensures.0

pub returns-in_err-all-clause-well_formed : goal.returns-in_err-all-clause-well_formed
returns-in_err-all-clause-well_formed g c = IfOk-from_err c.from_residual.result _ c.from_residual.ensures.0

pub returns-in_err-all-clause-refused : goal.returns-in_err-all-clause-refused
returns-in_err-all-clause-refused g c = read_wants c.from_residual.result _ c.from_residual.ensures.1

pub returns-in_err-batch_evaluations-clause-listed : goal.returns-in_err-batch_evaluations-clause-listed
returns-in_err-batch_evaluations-clause-listed g c = IfOk-from_err c.from_residual-in_err-batch_evaluations.result _ c.from_residual-in_err-batch_evaluations.ensures.0

pub returns-in_err-batch_evaluations-clause-fit : goal.returns-in_err-batch_evaluations-clause-fit
returns-in_err-batch_evaluations-clause-fit g c = IfOk-from_err c.from_residual-in_err-batch_evaluations.result _ c.from_residual-in_err-batch_evaluations.ensures.0

pub returns-in_err-batch_evaluations-clause-well_formed : goal.returns-in_err-batch_evaluations-clause-well_formed
returns-in_err-batch_evaluations-clause-well_formed g c = IfOk-from_err c.from_residual-in_err-batch_evaluations.result _ c.from_residual-in_err-batch_evaluations.ensures.0

pub returns-in_err-push-clause-listed : goal.returns-in_err-push-clause-listed
returns-in_err-push-clause-listed g c = IfOk-from_err c.from_residual-in_err-push.result _ c.from_residual-in_err-push.ensures.0

pub returns-in_err-push-clause-fit : goal.returns-in_err-push-clause-fit
returns-in_err-push-clause-fit g c = IfOk-from_err c.from_residual-in_err-push.result _ c.from_residual-in_err-push.ensures.0

pub returns-in_err-push-clause-well_formed : goal.returns-in_err-push-clause-well_formed
returns-in_err-push-clause-well_formed g c = IfOk-from_err c.from_residual-in_err-push.result _ c.from_residual-in_err-push.ensures.0

pub returns-in_err-push-clause-refused : goal.returns-in_err-push-clause-refused
returns-in_err-push-clause-refused g c = read_wants c.from_residual-in_err-push.result _ c.from_residual-in_err-push.ensures.1
