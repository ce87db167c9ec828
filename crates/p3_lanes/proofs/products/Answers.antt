use Rattle.std.proofs.Common.{◌<◌, ◌*◌, Fits, w64}
use Rattle.std.proofs.lemmas.Simd.{Each2-of}
use Rattle.p3_lanes.proofs.Reductions.{product_fits, low}
use Rattle.p3_lanes.proofs.products.Goals as goal

pub low_halves-requires : goal.low_halves-requires
low_halves-requires c = low c.args.a c.requires.a

pub low_halves-requires-2 : goal.low_halves-requires-2
low_halves-requires-2 c = low c.args.b c.requires.b

pub overflow_mul-result : goal.overflow_mul-result
overflow_mul-result c =
    rw (c.low_halves.ensures, c.low_halves-2.ensures) (Each2-of (λ n. n < 4294967296) (λ n. n < 4294967296) (λ n k. Fits w64 (n * k)) product_fits c.args.a c.args.b (low c.args.a c.requires.a) (low c.args.b c.requires.b))
