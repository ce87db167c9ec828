use Rattle.std.proofs.Common.{◌∙◌, ap, sym, arith}
use Rattle.p3_fri_hiding_openings.specs.Halves.{shown, kept_back}
use Rattle.p3_fri_hiding_openings.proofs.Cut.{cut_more, cut_all, collected_all, placed_same}
use Rattle.p3_fri_hiding_openings.proofs.split.split_points.Goals as goal

pub loop-i-preserved : goal.loop-i-preserved
loop-i-preserved g c =
    cut_more (λ vector. vector.items) (λ vector. vector.items)
    (λ place. shown c.args.count) (λ place. kept_back c.args.count)
    c.loop-i.i c.args.values.now c.loop-i.values c.loop-i.kept.items _
    c.index-values-i.result c.split_point.new.values c.in_ok-split_point.field-0
    c.loop-i-test.true c.index-values-i.is
    (c.in_ok-split_point.ensures.shown
    ∙ ap (λ vector. shown c.args.count vector.items) (sym c.index-values-i.is))
    (c.in_ok-split_point.ensures.kept
    ∙ ap (λ vector. kept_back c.args.count vector.items) (sym c.index-values-i.is))
    c.in_ok-push.ensures.items c.loop-i.invariant

pub returns-clause-shown : goal.returns-clause-shown
returns-clause-shown g c =
    cut_all (λ vector. vector.items) (λ vector. vector.items)
    (λ place. shown c.args.count) (λ place. kept_back c.args.count)
    c.loop-i.i c.args.values.now c.loop-i.values c.loop-i.kept.items
    (omega arith) c.loop-i.invariant
    ∙ placed_same (shown c.args.count) 0 _

pub returns-clause-kept : goal.returns-clause-kept
returns-clause-kept g c =
    collected_all (λ vector. vector.items) (λ vector. vector.items)
    (λ place. shown c.args.count) (λ place. kept_back c.args.count)
    c.loop-i.i c.args.values.now c.loop-i.values c.loop-i.kept.items
    (omega arith) c.loop-i.invariant
    ∙ placed_same (kept_back c.args.count) 0 _
