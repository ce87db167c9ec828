use Rattle.std.proofs.Common.{◌≡◌, ℕ, ◌*◌, ◌/◌, ◌%◌, ◌<◌, List, map, ap, ◌∙◌, arith}
use Rattle.p3_lanes.proofs.LaneLists.{map_twice, map_equal, each_map}
use Rattle.p3_lanes.proofs.Reductions.{sums_are, sums_fit, eleven_fold, eleven_folds}
use Rattle.p3_lanes.proofs.eleven_times.Goals as goal

abbrev Below : ℕ → Type 0
Below n = n < 12159718993900339201

-- the low halves, eleven times
low : (ns lows scaleds : List ℕ) → lows ≡ map (λ n. n % 4294967296) ns
    → scaleds ≡ map (λ n. n * 11) lows → scaleds ≡ map (λ n. n % 4294967296 * 11) ns
low ns lows scaleds e f =
    f ∙ ap (λ ms. map (λ n. n * 11) ms) e ∙ map_twice (λ n. n * 11) (λ n. n % 4294967296) ns

pub scaled-high-requires-clause-numbers : goal.scaled-high-requires-clause-numbers
scaled-high-requires-clause-numbers c =
    rw c.shifted.ensures (each_map Below (λ n. n < 4294967296) (λ n. n / 4294967296) (λ n l. omega (arith, l)) c.args.sums c.requires)

pub scaled-requires-clause-numbers : goal.scaled-requires-clause-numbers
scaled-requires-clause-numbers c =
    rw c.low_parts.ensures (each_map Below (λ n. n < 4294967296) (λ n. n % 4294967296) (λ n l. omega arith) c.args.sums c.requires)

pub overflow_add-result : goal.overflow_add-result
overflow_add-result c =
    sums_fit c.args.sums c.shifted.result c.scaled-high.result c.scaled.result 939524073 c.shifted.ensures c.scaled-high.ensures Below (λ n. n % 4294967296 * 11)
    (low c.args.sums c.low_parts.result c.scaled.result c.low_parts.ensures c.scaled.ensures) (λ n l. omega (arith, l)) c.requires

pub returns-clause-value : goal.returns-clause-value
returns-clause-value c =
    ap (λ ns. map (λ n. n % 2013265921) ns)
    (sums_are c.args.sums c.shifted.result c.scaled-high.result c.scaled.result 939524073 c.shifted.ensures c.scaled-high.ensures (λ n. n % 4294967296 * 11)
    (low c.args.sums c.low_parts.result c.scaled.result c.low_parts.ensures c.scaled.ensures))
    ∙ map_twice (λ n. n % 2013265921) eleven_fold c.args.sums
    ∙ map_equal Below (λ n. eleven_fold n % 2013265921) (λ n. 11 * n % 2013265921) (λ n l. eleven_folds n) c.args.sums c.requires

pub returns-clause-small : goal.returns-clause-small
returns-clause-small c =
    rw (sums_are c.args.sums c.shifted.result c.scaled-high.result c.scaled.result 939524073 c.shifted.ensures c.scaled-high.ensures (λ n. n % 4294967296 * 11)
    (low c.args.sums c.low_parts.result c.scaled.result c.low_parts.ensures c.scaled.ensures))
    (each_map Below (λ n. n < 4053239664633446401) eleven_fold (λ n l. omega (arith, l)) c.args.sums c.requires)
