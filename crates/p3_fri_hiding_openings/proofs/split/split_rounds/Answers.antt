use Rattle.std.proofs.Common.{map, ◌∙◌, ap₂, sym, arith}
use Rattle.algebra.specs.Nested.{nested}
use Rattle.p3_fri_hiding_openings.specs.RandomValues.{count_at}
use Rattle.p3_fri_hiding_openings.specs.Halves.{shown, kept_back}
use Rattle.p3_fri_hiding_openings.proofs.Cut.{cut_more, cut_all, collected_all}
use Rattle.std.proofs.lemmas.Result.{IfOk-from_err}
use Rattle.p3_fri_hiding_openings.proofs.split.split_rounds.Goals as goal

pub loop-i-preserved : goal.loop-i-preserved
loop-i-preserved g c =
    let r = c.args.num_random_codewords in
    let index = c.args.preprocessing in
    cut_more (λ vector. nested vector.items) (λ vector. nested vector.items)
    (λ round. map (map (shown (count_at r index round))))
    (λ round. map (map (kept_back (count_at r index round))))
    c.loop-i.i c.args.values.now c.loop-i.values c.loop-i.kept.items _
    c.index-values-i.result c.split_round.new.values c.in_ok-split_round.field-0
    c.loop-i-test.true c.index-values-i.is
    (c.in_ok-split_round.ensures.shown
    ∙ ap₂ (λ count vector. map (map (shown count)) (nested vector.items))
    c.expected_count-count.ensures (sym c.index-values-i.is))
    (c.in_ok-split_round.ensures.kept
    ∙ ap₂ (λ count vector. map (map (kept_back count)) (nested vector.items))
    c.expected_count-count.ensures (sym c.index-values-i.is))
    c.in_ok-push.ensures.items c.loop-i.invariant

pub returns-clause-shown : goal.returns-clause-shown
returns-clause-shown g c =
    let r = c.args.num_random_codewords in
    let index = c.args.preprocessing in
    cut_all (λ vector. nested vector.items) (λ vector. nested vector.items)
    (λ round. map (map (shown (count_at r index round))))
    (λ round. map (map (kept_back (count_at r index round))))
    c.loop-i.i c.args.values.now c.loop-i.values c.loop-i.kept.items
    (omega arith) c.loop-i.invariant

pub returns-clause-kept : goal.returns-clause-kept
returns-clause-kept g c =
    let r = c.args.num_random_codewords in
    let index = c.args.preprocessing in
    collected_all (λ vector. nested vector.items) (λ vector. nested vector.items)
    (λ round. map (map (shown (count_at r index round))))
    (λ round. map (map (kept_back (count_at r index round))))
    c.loop-i.i c.args.values.now c.loop-i.values c.loop-i.kept.items
    (omega arith) c.loop-i.invariant

-- where nothing is answered nothing is said of the answer
pub returns-in_err-push-clause-shown : goal.returns-in_err-push-clause-shown
returns-in_err-push-clause-shown g c =
    IfOk-from_err c.from_residual-in_err-push.result _ c.from_residual-in_err-push.ensures.0
