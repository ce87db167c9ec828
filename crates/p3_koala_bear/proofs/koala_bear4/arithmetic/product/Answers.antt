use Rattle.std.proofs.Common.{◌*◌, ap, ap₂, ◌∙◌}
use Rattle.algebra.specs.Field.{multiple}
use Rattle.p3_koala_bear.specs.KoalaBear.{koala_bear}
use Rattle.p3_koala_bear.proofs.QuarticSteps.{product_is}
use Rattle.p3_koala_bear.proofs.koala_bear4.arithmetic.product.Goals as goal

pub returns-clause-value : goal.returns-clause-value
returns-clause-value c =
    ap (λ n. multiple koala_bear n)
    (ap₂ (λ m n. m * n) c.as_canonical_u64.ensures c.as_canonical_u64-2.ensures)
    ∙ product_is c.args.a c.args.b
