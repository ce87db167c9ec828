use Rattle.std.proofs.Common.{◌≡◌, ◌∷◌, [], ◌+◌, ◌/◌, ◌^◌, length, map, get_or}
use Rattle.std.proofs.Common.{sym, ap, ◌∙◌, arith, subst}
use Rattle.std.proofs.lemmas.List.{get_or_default, length_push}
use Rattle.std.proofs.Math.Nat.{lt_of_lt_of_le}
use Rattle.algebra.specs.Nested.{lists}
use Rattle.p3_matrix.specs.declared.dense.RowMajorMatrix.{RowMajorMatrix}
use Rattle.p3_mmcs.specs.Batch.{AreBelow, max_height, dimensions_of}
use Rattle.p3_fri_prover.specs.Openings.{IsOneMatrix, OpensRows, index_into}
use Rattle.p3_fri_prover.proofs.Pushes.{map_same_list, rows_at, next_indices, pushed_each}
use Rattle.std.proofs.lemmas.Result.{IfOk-from_err}
use Rattle.p3_fri_prover.proofs.prover.openings.answer_queries.Goals as goal

pub loop-round-init : goal.loop-round-init
loop-round-init g c = record {
  count = ap length c.in_ok-openings.ensures.items;
  now = c.in_ok-indices.ensures.items ∙ sym (map_same_list c.args.positions.now);
  each = λ k o l. absurd (omega (arith, l));
}

pub open_round-requires-clause-below_64 : goal.open_round-requires-clause-below_64
open_round-requires-clause-below_64 g c =
    let here = c.loop-round in
    (c.requires.openable here.round c.index-prover_data-round.result c.loop-round-test.true).below_64

pub open_round-requires-clause-one_matrix : goal.open_round-requires-clause-one_matrix
open_round-requires-clause-one_matrix g c =
    let k = c.loop-round.round in
    let datum = c.index-prover_data-round.result in
    subst (λ d. IsOneMatrix (2 ^ get_or c.args.log_arities.now k 0) (g.M.Mmcs.committed d))
    (sym c.index-prover_data-round.is) (c.requires.openable k datum c.loop-round-test.true).one_matrix

pub open_round-requires-clause-below : goal.open_round-requires-clause-below
open_round-requires-clause-below g c =
    let k = c.loop-round.round in
    let arities = c.args.log_arities.now in
    let datum = c.index-prover_data-round.result in
    let at = rows_at arities c.args.positions.now k c.deref.result.now
    (c.deref.ensures.value ∙ c.loop-round.invariant.now) c.loop-round-test.true in
    subst (λ d. AreBelow (max_height (dimensions_of (g.M.Mmcs.committed d)))
    (map (λ i. i / 2 ^ get_or arities k 0) c.deref.result.now)) (sym c.index-prover_data-round.is)
    (subst (λ xs. AreBelow (max_height (dimensions_of (g.M.Mmcs.committed
    (get_or c.args.prover_data.now k datum)))) xs) (sym at) (c.requires.openable k datum c.loop-round-test.true).below)

pub shifted-requires : goal.shifted-requires
shifted-requires g c = record {
  below_64 = (c.requires.openable c.loop-round.round c.index-prover_data-round.result c.loop-round-test.true).below_64;
}

pub loop-round-preserved : goal.loop-round-preserved
loop-round-preserved g c =
    let here = c.loop-round in
    let k = here.round in
    let arities = c.args.log_arities.now in
    let ps = c.args.positions.now in
    let kept = c.args.prover_data.now in
    let item = c.index-prover_data-round.result in
    let opens = g.M.Mmcs.opens c.args.mmcs.now in
    let a = get_or arities k 0 in
    let x = c.in_ok-open_round.field-0 in
    record {
      count = ap length c.in_ok-push.ensures.items ∙ length_push here.openings.items x
          ∙ ap (λ n. n + 1) here.invariant.count;
      now = next_indices arities ps k c.deref-in-loop-round.result.now
          (c.deref-in-loop-round.ensures.value ∙ here.invariant.now) c.loop-round-test.true
          c.in_ok-indices-2.indices.items c.in_ok-indices-2.ensures;
      each = pushed_each (λ j o. (datum : g.row.M-ProverData.Denot)
          (matrix : RowMajorMatrix g.row.EF.Denot)
          → g.M.Mmcs.committed (get_or kept j datum) ≡ matrix ∷ []
          → OpensRows opens (get_or arities j 0) matrix (map (λ q. index_into arities q j) ps)
          (g.M.Mmcs.commitment_of (get_or kept j datum)) (lists o.sibling_values.items)
          o.opening_proof)
          here.openings.items c.push.new.self.items x k here.invariant.count
          c.in_ok-push.ensures.items here.invariant.each
          (λ datum matrix only.
          let same : get_or kept k datum ≡ item =
          get_or_default kept k datum item (omega (arith, c.requires.data_for_each))
          ∙ sym c.index-prover_data-round.is in
          subst (λ own. OpensRows opens a matrix (map (λ q. index_into arities q k) ps) own
          (lists x.sibling_values.items) x.opening_proof)
          (ap g.M.Mmcs.commitment_of (sym same))
          (subst (λ xs. OpensRows opens a matrix xs (g.M.Mmcs.commitment_of item)
          (lists x.sibling_values.items) x.opening_proof)
          (c.deref.ensures.value ∙ here.invariant.now)
          (c.in_ok-open_round.ensures matrix (ap g.M.Mmcs.committed (sym same) ∙ only))));
    }

pub returns-clause-each : goal.returns-clause-each
returns-clause-each g c = λ k o datum matrix l only.
    c.loop-round.invariant.each k o (lt_of_lt_of_le l c.loop-round-test.false) datum matrix only

-- where nothing is answered nothing is said of the answer
pub returns-in_err-indices-2-clause-count : goal.returns-in_err-indices-2-clause-count
returns-in_err-indices-2-clause-count g c =
    IfOk-from_err c.from_residual-in_err-indices-2.result _ c.from_residual-in_err-indices-2.ensures.0

pub returns-in_err-indices-2-clause-each : goal.returns-in_err-indices-2-clause-each
returns-in_err-indices-2-clause-each g c =
    IfOk-from_err c.from_residual-in_err-indices-2.result _ c.from_residual-in_err-indices-2.ensures.0

pub returns-in_err-indices-clause-count : goal.returns-in_err-indices-clause-count
returns-in_err-indices-clause-count g c =
    IfOk-from_err c.from_residual-in_err-indices.result _ c.from_residual-in_err-indices.ensures.0

pub returns-in_err-indices-clause-each : goal.returns-in_err-indices-clause-each
returns-in_err-indices-clause-each g c =
    IfOk-from_err c.from_residual-in_err-indices.result _ c.from_residual-in_err-indices.ensures.0

pub returns-in_err-open_round-clause-count : goal.returns-in_err-open_round-clause-count
returns-in_err-open_round-clause-count g c =
    IfOk-from_err c.from_residual-in_err-open_round.result _ c.from_residual-in_err-open_round.ensures.0

pub returns-in_err-open_round-clause-each : goal.returns-in_err-open_round-clause-each
returns-in_err-open_round-clause-each g c =
    IfOk-from_err c.from_residual-in_err-open_round.result _ c.from_residual-in_err-open_round.ensures.0

pub returns-in_err-push-clause-count : goal.returns-in_err-push-clause-count
returns-in_err-push-clause-count g c =
    IfOk-from_err c.from_residual-in_err-push.result _ c.from_residual-in_err-push.ensures.0

pub returns-in_err-push-clause-each : goal.returns-in_err-push-clause-each
returns-in_err-push-clause-each g c =
    IfOk-from_err c.from_residual-in_err-push.result _ c.from_residual-in_err-push.ensures.0
