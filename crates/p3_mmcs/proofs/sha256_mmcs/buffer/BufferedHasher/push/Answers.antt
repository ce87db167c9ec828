use Rattle.std.proofs.Common.{arith}
use Rattle.p3_mmcs.proofs.Messages.{message-push}
use Rattle.p3_mmcs.proofs.sha256_mmcs.buffer.BufferedHasher.push.Goals as goal

pub returns : goal.returns
returns c message given =
    let h = c.flush_if_full.new.self in
    let kept = c.flush_if_full.ensures.message message given in
    record {
      flushed = kept.flushed;
      held = kept.held;
      rest = message-push kept.flushed message h.buffer h.filled c.args.byte
          (omega arith) kept.rest;
    }
