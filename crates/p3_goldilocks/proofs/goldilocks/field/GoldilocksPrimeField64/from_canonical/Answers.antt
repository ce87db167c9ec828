use Rattle.std.proofs.Common.{sym, ◌∙◌}
use Rattle.p3_goldilocks.specs.GoldilocksLaws.{multiple_is}
use Rattle.p3_goldilocks.proofs.goldilocks.field.GoldilocksPrimeField64.from_canonical.Goals as goal

pub returns : goal.returns
returns c = c.from_number.ensures ∙ sym (multiple_is c.args.n)
