use Rattle.std.proofs.Common.{sym, ◌∙◌}
use Rattle.p3_goldilocks.specs.GoldilocksLaws.{multiple_is}
use Rattle.p3_goldilocks.proofs.goldilocks.field.GoldilocksField.from_u64.Goals as goal

pub returns : goal.returns
returns c = c.reduced_once.ensures ∙ sym (multiple_is c.args.n)
