use Rattle.std.proofs.Common.{ap₂, ◌∙◌}
use Rattle.algebra.specs.Field.{sub}
use Rattle.p3_goldilocks.specs.Goldilocks.{goldilocks}
use Rattle.p3_goldilocks.specs.GoldilocksLaws.{multiple_is}
use Rattle.p3_goldilocks.proofs.goldilocks2.field.norm_of.Goals as goal

pub returns : goal.returns
returns c =
    c.sub.ensures ∙ ap₂ (sub goldilocks) c.square.ensures
    (c.mul.ensures ∙ ap₂ goldilocks.mul (c.from_u64.ensures ∙ multiple_is 7) c.square-2.ensures)
