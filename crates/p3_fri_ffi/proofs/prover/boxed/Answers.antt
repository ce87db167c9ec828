use Rattle.p3_fri_ffi.proofs.prover.boxed.Goals as goal

pub returns-in-Ok : goal.returns-in-Ok
returns-in-Ok c = rw c.in-Ok.ensures.ok c.in_ok-prover.ensures
