use Rattle.std.proofs.Common.{◌≡◌, ◌≢◌, ◌++◌, ◌∷◌, ◌<◌, ◌∙◌, [], length, map, get_or, sym, ap, ap₂}
use Rattle.std.proofs.Common.{arith}
use Rattle.std.proofs.lemmas.List.{length-map}
use Rattle.std.proofs.lemmas.Bool.{true≢false}
use Rattle.algebra.specs.Field.{sub}
use Rattle.algebra.proofs.Combine.{sub-eq}
use Rattle.p3_pcs.specs.Claims.{PointClaim}
use Rattle.p3_pcs.specs.Claims.{point_claim}
use Rattle.p3_fri_inputs.proofs.Places.{at_mapped, holds_next, holds_of_all}
use Rattle.algebra.proofs.Growing.{mapped_next, mapped_end}
use Rattle.algebra.proofs.Lists.{entry_of_map}
use Rattle.p3_fri_inputs.proofs.points.push_distances.Goals as goal

pub returns-then-is_zero : goal.returns-then-is_zero
returns-then-is_zero g c =
    let K = g.EF.Field.ops in
    let field = g.met.EF.Field in
    let points = c.args.points.now in
    let k = c.loop-k.k in
    let x = g.EF.ExtensionField.lift c.args.read in
    let z = c.index-points-k.result in
    let is = c.index-points-k.is in
    let below : k < length points = c.loop-k-test.true in
    let distance = λ (z : PointClaim g.row.EF.Denot). sub K z.point x in
    let gap : c.sub-distance.result ≡ sub K z.point x =
    field.sub_law (get_or points k z).point c.from_base-x.result c.sub-distance.result
    c.sub-distance.ensures
    ∙ ap₂ (λ y v. sub K y v) (ap (λ y. y.point) (sym is)) c.from_base-x.ensures in
    at_mapped point_claim (λ z. z.point ≡ x) points k z below is
    (sub-eq K field.laws.ring (sym gap ∙ c.is_zero.ensures.0 c.if-is_zero.true))

pub loop-k-preserved : goal.loop-k-preserved
loop-k-preserved g c =
    let K = g.EF.Field.ops in
    let field = g.met.EF.Field in
    let points = c.args.points.now in
    let k = c.loop-k.k in
    let x = g.EF.ExtensionField.lift c.args.read in
    let z = c.index-points-k.result in
    let is = c.index-points-k.is in
    let below : k < length points = c.loop-k-test.true in
    let distance = λ (z : PointClaim g.row.EF.Denot). sub K z.point x in
    let gap : c.sub-distance.result ≡ sub K z.point x =
    field.sub_law (get_or points k z).point c.from_base-x.result c.sub-distance.result
    c.sub-distance.ensures
    ∙ ap₂ (λ y v. sub K y v) (ap (λ y. y.point) (sym is)) c.from_base-x.ensures in
    let old = c.loop-k.differences.items in
    record {
      apart = holds_next point_claim (λ z. z.point ≢ x) points k z below is c.loop-k.invariant.apart
          (λ e. true≢false (sym (c.is_zero.ensures.1
          (gap ∙ ap (λ y. sub K y x) e ∙ field.laws.add_neg x)) ∙ c.if-is_zero.false));
      pushed = mapped_next distance (map point_claim points) k (point_claim z)
          c.args.differences.now.items old c.push.new.self.items
          (omega (arith, below, length-map points point_claim))
          (entry_of_map point_claim points k z below is) c.loop-k.invariant.pushed
          (c.in_ok-push.ensures.items ∙ ap (λ v. old ++ v ∷ []) gap);
    }

pub returns : goal.returns
returns g c =
    let K = g.EF.Field.ops in
    let field = g.met.EF.Field in
    let points = c.args.points.now in
    let k = c.loop-k.k in
    let x = g.EF.ExtensionField.lift c.args.read in
    let distance = λ (z : PointClaim g.row.EF.Denot). sub K z.point x in (
      holds_of_all point_claim (λ z. z.point ≢ x) points k (omega arith) c.loop-k.invariant.apart,
      mapped_end distance (map point_claim points) k c.args.differences.now.items
          c.loop-k.differences.items (omega (arith, length-map points point_claim))
          c.loop-k.invariant.pushed,
    )
