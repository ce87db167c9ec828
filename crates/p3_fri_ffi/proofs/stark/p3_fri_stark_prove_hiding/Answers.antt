use Rattle.p3_fri_ffi.proofs.Outcomes.{known}
use Rattle.p3_fri_ffi.proofs.stark.p3_fri_stark_prove_hiding.Goals as goal

pub returns-clause-satisfied : goal.returns-clause-satisfied
returns-clause-satisfied c = known c.prove-outcome.result c.reply.result c.prove-outcome.ensures
    c.reply.ensures.refused
