use Rattle.std.proofs.Common.{ap, ◌∙◌}
use Rattle.std.proofs.lemmas.Result.{IfOk-weaker}
use Rattle.hex.specs.Hex.{encode_lower, decode_sized}
use Rattle.hex.proofs.HexLemmas.{decode_sized-encode_lower}
use Rattle.fri_numbers.proofs.claims.hex_of.Goals as goal

pub returns : goal.returns
returns c =
    IfOk-weaker c.encode.result _ _
    (λ text is. ap (λ s. decode_sized s 32) (is ∙ ap encode_lower c.as_slice.ensures)
    ∙ decode_sized-encode_lower c.args.commitment.now 32 c.told-commitment c.fits-commitment)
    c.encode.ensures
