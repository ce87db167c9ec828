use Rattle.std.proofs.Common.{sym, ◌∙◌}
use Rattle.p3_baby_bear.specs.BabyBearLaws.{multiple_is}
use Rattle.p3_baby_bear.proofs.baby_bear.field.BabyBearPrimeField64.from_canonical.Goals as goal

pub returns : goal.returns
returns c = c.from_number.ensures ∙ sym (multiple_is c.args.n)
