use Rattle.std.proofs.Common.{rules}
use Rattle.fri_flat.proofs.Digests.{digest-of_hex}
use Rattle.fri_flat.proofs.reader.hex_of.Goals as goal

pub returns : goal.returns
returns c = digest-of_hex c.in_ok-text.text c.args.bytes.now c.in_ok-text.ensures
    c.requires (search rules)
