use Rattle.std.proofs.Common.{◌++◌, ◌∷◌, ◌<◌, ◌≤◌, ◌∙◌, [], length, map, ap, arith}
use Rattle.std.proofs.lemmas.List.{length-map}
use Rattle.algebra.specs.Polynomial.{val}
use Rattle.p3_pcs.specs.Claims.{PointClaim}
use Rattle.p3_pcs.specs.Claims.{point_claim}
use Rattle.p3_fri_inputs.proofs.Places.{all_mapped_at}
use Rattle.algebra.proofs.Growing.{mapped_next}
use Rattle.algebra.proofs.Lists.{entry_of_map}
use Rattle.p3_fri_inputs.proofs.claims.push_combined.Goals as goal

pub combine-requires : goal.combine-requires
combine-requires g c =
    let items = c.args.matrix.now.points.items in
    let k = c.loop-k.k in
    let z = c.index.result.now in
    let below : k < length items = omega (arith, c.args.matrix.now.points.ok.0) in
    let p = c.args.ladder.now.powers.len in
    let at = all_mapped_at point_claim (λ y. length y.values ≤ p) items c.requires.within k z below
    c.index.ensures in
    omega (arith, at, ap length c.deref.ensures.value)

pub loop-k-preserved : goal.loop-k-preserved
loop-k-preserved g c =
    let items = c.args.matrix.now.points.items in
    let k = c.loop-k.k in
    let z = c.index.result.now in
    let below : k < length items = omega (arith, c.args.matrix.now.points.ok.0) in
    let K = g.EF.Field.ops in
    let alpha = c.args.ladder.now.alpha in
    let value = λ (y : PointClaim g.row.EF.Denot). val K y.values alpha in
    let old = c.loop-k.combined.items in
    mapped_next value (map point_claim items) k (point_claim z) c.args.combined.now.items old
    c.push.new.self.items (omega (arith, below, length-map items point_claim))
    (entry_of_map point_claim items k z below c.index.ensures) c.loop-k.invariant
    (c.in_ok-push.ensures.items
    ∙ ap (λ v. old ++ v ∷ []) (c.combine.ensures ∙ ap (λ xs. val K xs alpha) c.deref.ensures.value))
