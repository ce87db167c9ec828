use Rattle.std.specs.Prelude.{slice_index}
use Rattle.std.proofs.Common.{◌%◌, ap, ◌∙◌}
use Rattle.p3_koala_bear.specs.declared.koala_bear.KoalaBear.{KoalaBear}
use Rattle.p3_koala_bear.specs.KoalaBear.{number_bytes}
use Rattle.p3_koala_bear.proofs.QuarticSteps.{coefficient_byte_is}
use Rattle.p3_koala_bear.proofs.koala_bear4.bytes.KoalaBear4ElementBytes.byte.Goals as goal

pub returns : goal.returns
returns c =
    c.byte.ensures ∙ ap (λ (k : KoalaBear). slice_index (number_bytes k) (c.args.index % 4))
    c.coefficient-coefficient.ensures
    ∙ coefficient_byte_is c.args.self c.args.index c.requires.below_len
