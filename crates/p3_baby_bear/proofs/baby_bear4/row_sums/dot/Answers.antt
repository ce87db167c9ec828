use Rattle.std.proofs.Common.{refl, ap, ◌∙◌, arith}
use Rattle.algebra.specs.Polynomial.{sum_below}
use Rattle.p3_field_core.specs.RowSums.{row_term}
use Rattle.p3_field_core.proofs.TermSums.{sum_none}
use Rattle.p3_baby_bear.specs.BabyBear.{baby_bear}
use Rattle.p3_baby_bear.specs.BabyBearLaws.{same_number}
use Rattle.p3_baby_bear.specs.BabyBear4.{baby_bear4, lift4}
use Rattle.p3_baby_bear.specs.BabyBear4Laws.{baby_bear4_laws, zero4_is, same_coefficients}
use Rattle.p3_baby_bear.proofs.baby_bear4.row_sums.dot.Goals as goal

pub loop-part-init : goal.loop-part-init
loop-part-init c =
    same_coefficients (same_number _ _ refl) (same_number _ _ refl) (same_number _ _ refl) (same_number _ _ refl)
    ∙ zero4_is ∙ sum_none baby_bear4 baby_bear4_laws.ring
    (row_term baby_bear baby_bear4 lift4 c.args.values.now c.args.row.now)

pub loop-part-preserved : goal.loop-part-preserved
loop-part-preserved c =
    let f = row_term baby_bear baby_bear4 lift4 c.args.values.now c.args.row.now in
    c.add-sum.ensures ∙ ap (λ s. baby_bear4.add s c.dot_part.result) c.loop-part.invariant
    ∙ c.dot_part.ensures ∙ ap (λ n. sum_below baby_bear4 n f) (omega arith)

pub returns : goal.returns
returns c =
    c.add.ensures ∙ ap (λ s. baby_bear4.add s c.dot_part-2.result)
    (c.loop-part.invariant ∙ ap (λ n. sum_below baby_bear4 n (row_term baby_bear baby_bear4 lift4 c.args.values.now c.args.row.now)) (omega arith))
    ∙ c.dot_part-2.ensures
