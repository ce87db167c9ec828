use Rattle.std.proofs.Common.{sym, ◌∙◌}
use Rattle.p3_koala_bear.specs.KoalaBearLaws.{multiple_is}
use Rattle.p3_koala_bear.proofs.koala_bear.field.KoalaBearPrimeField64.from_canonical.Goals as goal

pub returns : goal.returns
returns c = c.from_number.ensures ∙ sym (multiple_is c.args.n)
