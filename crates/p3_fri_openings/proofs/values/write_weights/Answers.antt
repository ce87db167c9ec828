use Rattle.std.proofs.Common.{◌<◌, get_or, length, arith, ap₂, ◌∙◌}
use Rattle.p3_field_core.proofs.TermSums.{item}
use Rattle.p3_field_core.proofs.ColumnSums.{written}
use Rattle.p3_fri_openings.proofs.values.write_weights.Goals as goal

pub loop-i-preserved : goal.loop-i-preserved
loop-i-preserved g c k d =
    let K = g.EF.Field.ops in
    let B = g.F.Field.ops in
    let lift = g.EF.ExtensionField.lift in
    let i = c.loop-i.i in
    let inverses = c.args.inverses.now in
    let coset = c.args.coset.now in
    let here : i < length c.loop-i.weights = omega arith in
    written (λ k. K.mul (get_or inverses k K.zero) (lift (get_or coset k B.zero)))
    c.loop-i.weights i c.scale.result d here
    (c.scale.ensures ∙ ap₂ (λ a b. K.mul a (lift b))
    (item inverses i c.index-inverses-i.result K.zero (omega arith) c.index-inverses-i.is)
    (item coset i c.index-coset-i.result B.zero (omega arith) c.index-coset-i.is))
    (λ k l. c.loop-i.invariant k d l) k
