use Rattle.p3_fri_ffi.proofs.Outcomes.{by_answer}
use Rattle.p3_fri_ffi.proofs.prover.p3_fri_prover_open.Goals as goal

pub returns-clause-answered : goal.returns-clause-answered
returns-clause-answered c = λ is. by_answer c.open-outcome.result
    (λ v e. rw (← c.in-Some.ensures.some, ← c.deref_mut.ensures.value, (rw e at c.reply.ensures.answered) is)
    (rw e at c.open-outcome.ensures.answered)) c.reply.ensures.refused is

pub returns-clause-kept : goal.returns-clause-kept
returns-clause-kept c =
    rw (← c.in-Some.ensures.some, ← c.deref_mut.ensures.value, c.opened.ensures) c.open-outcome.ensures.kept
