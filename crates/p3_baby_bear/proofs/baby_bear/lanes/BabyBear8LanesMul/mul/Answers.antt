use Rattle.std.proofs.Common.{◌*◌, ◌%◌, ◌<◌, ◌≤◌, map, ap, ◌∙◌, arith}
use Rattle.std.specs.Simd.Lanes.{zip2}
use Rattle.std.proofs.lemmas.Simd.{Each1-weaker}
use Rattle.p3_lanes.proofs.LaneLists.{map_zip2}
use Rattle.p3_baby_bear.specs.Lanes.{lane_of}
use Rattle.p3_baby_bear.proofs.LaneSteps.{each, each_product_small, canonical_map, lane_product}
use Rattle.p3_baby_bear.proofs.baby_bear.lanes.BabyBear8LanesMul.mul.Goals as goal

pub reduced-requires : goal.reduced-requires
reduced-requires c =
    let a = c.args.self.numbers in
    let b = c.args.rhs.numbers in
    rw c.products.ensures (Each1-weaker (λ n. n ≤ 4053239664633446400) (λ n. n < 4611686018427387904) (λ n l. omega (arith, l)) (zip2 (λ m n. m * n) a b)
    (each_product_small a b (each a c.args.self.canonical) (each b c.args.rhs.canonical)))

pub invariant_of-result : goal.invariant_of-result
invariant_of-result c =
    record { canonical = λ l. rw c.reduced.ensures (canonical_map (λ n. n) c.products.result l) }

pub returns : goal.returns
returns c l within =
    let a = c.args.self.numbers in
    let b = c.args.rhs.numbers in
    ap (λ ns. lane_of ns l)
    (c.reduced.ensures ∙ ap (λ ns. map (λ n. n % 2013265921) ns) c.products.ensures
    ∙ map_zip2 (λ n. n % 2013265921) (λ m n. m * n) a b)
    ∙ lane_product a b l within (omega arith) (omega arith)
