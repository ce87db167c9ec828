use Rattle.p3_baby_bear.specs.BabyBear4.{baby_bear4}
use Rattle.p3_baby_bear.specs.BabyBear4Laws.{same_coefficients}
use Rattle.p3_baby_bear.proofs.baby_bear4.lanes.arithmetic.BabyBear4x8LanesNeg.neg.Goals as goal

pub returns : goal.returns
unfolding baby_bear4
returns c l within =
    same_coefficients (c.neg.ensures l within) (c.neg-2.ensures l within) (c.neg-3.ensures l within) (c.neg-4.ensures l within)
