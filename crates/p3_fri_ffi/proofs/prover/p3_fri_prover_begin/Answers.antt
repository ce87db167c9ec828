use Rattle.p3_fri_ffi.proofs.prover.p3_fri_prover_begin.Goals as goal

pub returns-in-Ok-clause-begun : goal.returns-in-Ok-clause-begun
returns-in-Ok-clause-begun c = λ is. rw c.opened.ensures c.in-Ok.ensures
