use Rattle.std.proofs.Common.{◌<◌, ◌*◌, Fits, w64, ap, ◌∙◌, arith}
use Rattle.std.specs.Prelude.{replicate}
use Rattle.std.specs.Simd.Lanes.{zip2}
use Rattle.p3_lanes.proofs.LaneLists.{zip2_one, each_one}
use Rattle.p3_lanes.proofs.Reductions.{product_fits}
use Rattle.p3_lanes.proofs.scaled.Goals as goal

pub overflow_mul-result : goal.overflow_mul-result
overflow_mul-result c =
    rw c.low_halves.ensures (each_one (λ n. n < 4294967296) (λ n k. Fits w64 (n * k)) c.args.factor (λ n l. product_fits n c.args.factor l c.requires.factor) c.args.numbers 8 c.requires.numbers)

pub returns : goal.returns
returns c =
    ap (λ ns. zip2 (λ n k. n * k) ns (replicate 8 c.args.factor)) c.low_halves.ensures
    ∙ zip2_one (λ n k. n * k) c.args.numbers 8 c.args.factor (omega arith)
