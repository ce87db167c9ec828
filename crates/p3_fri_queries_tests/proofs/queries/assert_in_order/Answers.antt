use Rattle.std.proofs.Common.{ℕ, ◌<◌, List, [], ◌∷◌, length, get_or, arith, ap, sym, subst, ◌∙◌, below_more}
use Rattle.algebra.specs.Nested.{lists}
use Rattle.algebra.proofs.Nested.{lists_at}
use Rattle.p3_fri_relation.specs.FoldedQuery.{IsInOrder}
use Rattle.p3_fri_relation.specs.Views.{query_input}
use Rattle.p3_fri_queries.specs.Folded.{query_at}
use Rattle.p3_fri_queries_tests.proofs.queries.assert_in_order.Goals as goal

pub loop-query-preserved : goal.loop-query-preserved
loop-query-preserved g c =
    let k = c.loop-query.query in
    let l : k < length c.args.inputs.now = omega arith in
    below_more (λ (j : ℕ). IsInOrder (query_at c.args.positions.now c.args.betas.now (1 ∷ 1 ∷ []) c.args.openings.now
    (lists c.args.inputs.now) 4 2 j)) k c.loop-query.invariant
    (subst (λ (us : List _). IsInOrder (query_input k (get_or c.args.positions.now k 0) c.args.betas.now (1 ∷ 1 ∷ [])
    c.args.openings.now us 4 2))
    (c.as_slice-met.ensures.value ∙ ap (λ (v : _). v.items) c.index-inputs-query.is
    ∙ sym (lists_at c.args.inputs.now k c.index-inputs-query.result l))
    (c.fold-folded.ensures (sym c.if-not-is_ok.ensures.value)))
