use Rattle.std.proofs.Common.{take}
use Rattle.fri_stark_bytes.specs.Texts.{IsAcceptedText}
use Rattle.p3_fri_ffi.proofs.Outcomes.{answered}
use Rattle.p3_fri_ffi.proofs.stark.p3_fri_stark_verify_hiding.Goals as goal

pub returns-clause-accepted : goal.returns-clause-accepted
returns-clause-accepted c = answered (IsAcceptedText _) c.verify-outcome.result c.reply.result
    (take c.reply.new.needed c.reply.new.buffer) c.verify-outcome.ensures c.reply.ensures.answered
    c.reply.ensures.refused
