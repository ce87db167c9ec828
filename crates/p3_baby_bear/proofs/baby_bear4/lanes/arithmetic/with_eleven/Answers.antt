use Rattle.std.proofs.Common.{◌≡◌, ◌+◌, ◌<◌, ◌≤◌, ℕ, List, length, get_or, ap, ◌∙◌, arith}
use Rattle.std.specs.Simd.Lanes.{zip2, Each1}
use Rattle.std.proofs.lemmas.Simd.{Each1-weaker, length-zip2}
use Rattle.algebra.specs.Field.{multiple}
use Rattle.p3_baby_bear.specs.BabyBear.{baby_bear}
use Rattle.p3_baby_bear.specs.Lanes.{lane_of}
use Rattle.p3_baby_bear.proofs.LaneSteps.{sums_fit, sums_small, sum_counts, eleven_counts, lane_rest}
use Rattle.p3_baby_bear.proofs.LaneSteps.{canonical_map}
use Rattle.p3_baby_bear.proofs.baby_bear4.lanes.arithmetic.with_eleven.Goals as goal

-- no greater than a product
small : (ns : List ℕ) → Each1 (λ n. n < 4053239664633446401) ns → Each1 (λ n. n ≤ 4053239664633446400) ns
small ns t = Each1-weaker (λ n. n < 4053239664633446401) (λ n. n ≤ 4053239664633446400) (λ n l. omega (arith, l)) ns t

pub eleven_times-requires : goal.eleven_times-requires
eleven_times-requires c =
    Each1-weaker (λ n. n ≤ 12159718993900339200) (λ n. n < 12159718993900339201) (λ n l. omega (arith, l)) c.args.eleven c.requires.eleven

pub overflow_add-once : goal.overflow_add-once
overflow_add-once c =
    sums_fit 12159718993900339200 4053239664633446400 c.args.once c.eleven_times.result (omega arith) c.requires.once (small c.eleven_times.result c.eleven_times.ensures.small)

pub reduced_sum-requires : goal.reduced_sum-requires
reduced_sum-requires c =
    Each1-weaker (λ n. n ≤ 16212958658533785600) (λ n. n < 18446744073709551616) (λ n l. omega (arith, l)) (zip2 (λ m n. m + n) c.args.once c.eleven_times.result)
    (sums_small 12159718993900339200 4053239664633446400 16212958658533785600 c.args.once c.eleven_times.result (omega arith) c.requires.once (small c.eleven_times.result c.eleven_times.ensures.small))

pub invariant_of-result : goal.invariant_of-result
invariant_of-result c =
    record { canonical = λ l. rw c.reduced_sum.ensures (canonical_map (λ n. n) (zip2 (λ m n. m + n) c.args.once c.eleven_times.result) l) }

pub returns : goal.returns
returns c l within =
    let total = zip2 (λ m n. m + n) c.args.once c.eleven_times.result in
    let long : length total ≡ 8 = length-zip2 (λ m n. m + n) c.args.once c.eleven_times.result (omega arith) ∙ omega arith in
    ap (λ ns. lane_of ns l) c.reduced_sum.ensures
    ∙ lane_rest total l within long
    ∙ sum_counts c.args.once c.eleven_times.result l within (omega arith) (omega arith)
    ∙ ap (λ x. baby_bear.add (multiple baby_bear (get_or c.args.once l 0)) x)
    (eleven_counts c.eleven_times.result c.args.eleven l within (omega arith) (omega arith) c.eleven_times.ensures.value)
