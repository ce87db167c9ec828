use Rattle.std.proofs.Common.{ap₂, ◌∙◌}
use Rattle.p3_baby_bear.specs.BabyBear4.{baby_bear4}
use Rattle.p3_baby_bear.specs.BabyBear4Laws.{same_coefficients}
use Rattle.p3_baby_bear.specs.BabyBear4Laws.{scaled_is}
use Rattle.p3_baby_bear.proofs.baby_bear4.column_sums.four_scaled.Goals as goal

pub returns : goal.returns
unfolding baby_bear4
returns c =
    let plus = baby_bear4.add in
    let values = c.args.values in
    let factors = c.args.factors in
    same_coefficients c.four_products.ensures c.four_products-2.ensures c.four_products-3.ensures
    c.four_products-4.ensures
    ∙ ap₂ plus
    (ap₂ plus (ap₂ plus (scaled_is values.0 factors.0) (scaled_is values.1 factors.1))
    (scaled_is values.2 factors.2))
    (scaled_is values.3 factors.3)
