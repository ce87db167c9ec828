use Rattle.std.specs.Prelude.{slice_index}
use Rattle.std.proofs.Common.{◌%◌, ap, ◌∙◌}
use Rattle.p3_baby_bear.specs.declared.baby_bear.BabyBear.{BabyBear}
use Rattle.p3_baby_bear.specs.BabyBear.{number_bytes}
use Rattle.p3_baby_bear.proofs.QuarticSteps.{coefficient_byte_is}
use Rattle.p3_baby_bear.proofs.baby_bear4.bytes.BabyBear4ElementBytes.byte.Goals as goal

pub returns : goal.returns
returns c =
    c.byte.ensures ∙ ap (λ (k : BabyBear). slice_index (number_bytes k) (c.args.index % 4))
    c.coefficient-coefficient.ensures
    ∙ coefficient_byte_is c.args.self c.args.index c.requires.below_len
