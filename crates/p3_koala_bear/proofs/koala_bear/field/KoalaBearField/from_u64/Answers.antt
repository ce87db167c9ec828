use Rattle.std.proofs.Common.{◌%◌, ap, ◌∙◌}
use Rattle.p3_koala_bear.specs.KoalaBearLaws.{reduced_is}
use Rattle.p3_koala_bear.proofs.koala_bear.field.KoalaBearField.from_u64.Goals as goal

pub returns : goal.returns
returns c =
    c.from_number.ensures ∙ reduced_is c.args.n (c.args.n % c.from.result)
    (ap (λ p. c.args.n % p) c.from.ensures)
