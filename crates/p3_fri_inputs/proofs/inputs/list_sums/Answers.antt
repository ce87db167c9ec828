use Rattle.std.proofs.Common.{◌<◌, get_or, length, [], ◌∷◌, ◌++◌, ap, ◌∙◌, arith}
use Rattle.std.proofs.lemmas.List.{get_or_default}
use Rattle.algebra.proofs.Growing.{mapped_end, mapped_more}
use Rattle.p3_fri_inputs.proofs.inputs.list_sums.Goals as goal

pub returns : goal.returns
returns g c =
    mapped_end (λ h. (h, get_or c.args.sums.now h g.EF.Field.ops.zero)) c.args.heights.now c.loop-k.k []
    c.loop-k.openings.items (omega arith) c.loop-k.invariant

pub loop-k-preserved : goal.loop-k-preserved
loop-k-preserved g c =
    let sums = c.args.sums.now in
    let zero = g.EF.Field.ops.zero in
    let heights = c.args.heights.now in
    let k = c.loop-k.k in
    let h = get_or heights k 0 in
    let there : h < length sums = c.requires.within k 0 c.loop-k-test.true in
    mapped_more (λ h. (h, get_or sums h zero)) heights k h c.loop-k.openings.items
    c.push.new.self.items c.loop-k-test.true (get_or_default heights k 0 h c.loop-k-test.true)
    c.loop-k.invariant
    (c.in_ok-push.ensures.items
    ∙ ap (λ x. c.loop-k.openings.items ++ (h, x) ∷ [])
    (c.index-sums-h.is ∙ get_or_default sums h c.index-sums-h.result zero there))
