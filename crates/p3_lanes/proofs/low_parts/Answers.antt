use Rattle.std.proofs.Common.{◌%◌, lit<, arith}
use Rattle.std.proofs.lemmas.Simd.{Each2-splat, Each1-all}
use Rattle.p3_lanes.proofs.LaneLists.{zip2_one}
use Rattle.p3_lanes.proofs.low_parts.Goals as goal

pub nonzero_rem-result : goal.nonzero_rem-result
nonzero_rem-result c = Each2-splat _ _ 8 4294967296 (Each1-all _ (λ x. lit< tt) _)

pub returns : goal.returns
returns c = zip2_one (λ n k. n % k) c.args.numbers 8 4294967296 (omega arith)
