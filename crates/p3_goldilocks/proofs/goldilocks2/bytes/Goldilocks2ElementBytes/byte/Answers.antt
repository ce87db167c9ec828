use Rattle.std.specs.Prelude.{slice_index}
use Rattle.std.proofs.Common.{◌%◌, ap, ◌∙◌}
use Rattle.p3_goldilocks.specs.declared.goldilocks.Goldilocks.{Goldilocks}
use Rattle.p3_goldilocks.specs.Goldilocks.{number_bytes}
use Rattle.p3_goldilocks.proofs.QuadraticSteps.{coefficient_byte_is}
use Rattle.p3_goldilocks.proofs.goldilocks2.bytes.Goldilocks2ElementBytes.byte.Goals as goal

pub returns : goal.returns
returns c =
    c.byte.ensures ∙ ap (λ (k : Goldilocks). slice_index (number_bytes k) (c.args.index % 8))
    c.coefficient-coefficient.ensures
    ∙ coefficient_byte_is c.args.self c.args.index c.requires.below_len
