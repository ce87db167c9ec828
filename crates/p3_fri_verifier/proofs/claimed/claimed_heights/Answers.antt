use Rattle.std.proofs.Common.{◌≡◌, ◌+◌, ◌-◌, arith}
use Rattle.p3_field_core.specs.declared.coset.TwoAdicMultiplicativeCoset.{TwoAdicMultiplicativeCoset as Coset}
use Rattle.p3_fri_verifier.proofs.Sizes.{listed_first, listed_one, listed_none, listed_all}
use Rattle.p3_fri_verifier.proofs.claimed.claimed_heights.Goals as goal

pub loop-size-init : goal.loop-size-init
loop-size-init g c =
    let size = λ (domain : Coset g.row.F.Denot g.row.F-Prepared.Denot g.F.TwoAdicField g.F.Field g.F.PartialEq g.F.Add g.F.Sub g.F.Mul g.F.Neg). domain.log_size in
    listed_first size c.args.log_blowup c.args.claims.now c.claimed_sizes-sizes.result c.claimed_sizes-sizes.ensures.count c.claimed_sizes-sizes.ensures.marked
    c.new-heights.result.items c.new-heights.ensures.items

pub loop-size-preserved-in-Continue-1 : goal.loop-size-preserved-in-Continue-1
loop-size-preserved-in-Continue-1 g c =
    let size = λ (domain : Coset g.row.F.Denot g.row.F-Prepared.Denot g.F.TwoAdicField g.F.Field g.F.PartialEq g.F.Add g.F.Sub g.F.Mul g.F.Neg). domain.log_size in
    let n = c.loop-size.size in
    let next : n ≡ n - 1 + 1 = omega arith in
    rw c.in_ok-push.ensures.items (listed_one size c.args.log_blowup c.args.claims.now c.claimed_sizes-sizes.result c.claimed_sizes-sizes.ensures.count c.claimed_sizes-sizes.ensures.marked
    n (n - 1) c.loop-size.heights.items next c.if-sizes-size.true c.loop-size.invariant)

pub loop-size-preserved : goal.loop-size-preserved
loop-size-preserved g c =
    let size = λ (domain : Coset g.row.F.Denot g.row.F-Prepared.Denot g.F.TwoAdicField g.F.Field g.F.PartialEq g.F.Add g.F.Sub g.F.Mul g.F.Neg). domain.log_size in
    let n = c.loop-size.size in
    let next : n ≡ n - 1 + 1 = omega arith in
    listed_none size c.args.log_blowup c.args.claims.now c.claimed_sizes-sizes.result c.claimed_sizes-sizes.ensures.count c.claimed_sizes-sizes.ensures.marked
    n (n - 1) c.loop-size.heights.items next c.if-sizes-size.false c.loop-size.invariant

pub returns : goal.returns
returns g c =
    let size = λ (domain : Coset g.row.F.Denot g.row.F-Prepared.Denot g.F.TwoAdicField g.F.Field g.F.PartialEq g.F.Add g.F.Sub g.F.Mul g.F.Neg). domain.log_size in
    listed_all size c.args.log_blowup c.args.claims.now c.claimed_sizes-sizes.result c.claimed_sizes-sizes.ensures.count c.claimed_sizes-sizes.ensures.marked
    c.loop-size.size c.loop-size.heights.items (omega arith) c.loop-size.invariant
