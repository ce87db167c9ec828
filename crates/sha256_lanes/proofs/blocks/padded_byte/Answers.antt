use Rattle.sha256_lanes.specs.Lanes.{message_of}
use Rattle.sha256_lanes.proofs.Pieces.{end_byte, message_length, own_byte}
use Rattle.sha256_lanes.proofs.blocks.padded_byte.Goals as goal

pub returns-then-at-len : goal.returns-then-at-len
returns-then-at-len c =
    own_byte c.args.messages.now c.args.len c.args.lane c.args.at c.requires.length c.requires.lane c.if-at-len.true

pub returns-else-at-len : goal.returns-else-at-len
returns-else-at-len c =
    end_byte (message_of c.args.len c.args.lane c.args.messages.now) c.args.end.now c.args.len c.args.at
    (message_length c.args.messages.now c.args.len c.args.lane c.requires.length c.requires.lane)
    c.requires.end c.if-at-len.false c.requires.within
