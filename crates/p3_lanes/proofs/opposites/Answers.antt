use Rattle.std.proofs.Common.{ℕ, ◌-◌, ◌%◌, ◌<◌, map, ap, ◌∙◌, arith}
use Rattle.p3_lanes.proofs.LaneLists.{each_map, map_twice, modulus_less}
use Rattle.p3_lanes.proofs.opposites.Goals as goal

abbrev Below : ℕ → Type 0
Below n = n < 2013265921

pub reduced_once-requires : goal.reduced_once-requires
reduced_once-requires c =
    rw (modulus_less c.args.numbers (omega arith)) (each_map Below (λ n. n < 4026531842) (λ n. 2013265921 - n) (λ n l. omega arith) c.args.numbers c.requires)

pub returns : goal.returns
returns c =
    c.reduced_once.ensures ∙ ap (λ ns. map (λ n. n % 2013265921) ns) (modulus_less c.args.numbers (omega arith))
    ∙ map_twice (λ n. n % 2013265921) (λ n. 2013265921 - n) c.args.numbers
