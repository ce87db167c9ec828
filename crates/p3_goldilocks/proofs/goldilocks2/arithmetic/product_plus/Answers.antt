use Rattle.std.proofs.Common.{◌+◌, ◌*◌, ap, ap₂, ◌∙◌}
use Rattle.p3_goldilocks.specs.Goldilocks.{element}
use Rattle.p3_goldilocks.proofs.QuadraticSteps.{product_plus_is}
use Rattle.p3_goldilocks.proofs.goldilocks2.arithmetic.product_plus.Goals as goal

pub returns : goal.returns
returns c =
    c.reduced.ensures
    ∙ ap (λ n. element (n + c.args.number)) (ap₂ (λ m n. m * n)
    (c.from.ensures ∙ c.as_canonical_u64.ensures) (c.from-2.ensures ∙ c.as_canonical_u64-2.ensures))
    ∙ product_plus_is c.args.a c.args.b c.args.number
