use Rattle.std.proofs.Common.{rules, ap, ◌∙◌}
use Rattle.hex.specs.Hex.{decode_of}
use Rattle.hex.proofs.HexLemmas.{decode_of-encode_lower}
use Rattle.fri_flat.proofs.reader.context_of.Goals as goal

pub returns : goal.returns
returns c = ap decode_of c.in_ok-text.ensures
    ∙ decode_of-encode_lower c.args.bytes.now (search rules)
