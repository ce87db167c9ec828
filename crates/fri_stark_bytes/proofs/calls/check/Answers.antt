use Rattle.fri_stark_bytes.proofs.calls.check.Goals as goal

pub returns-in-Ok : goal.returns-in-Ok
returns-in-Ok c = record {
  system = c.in_ok-system.system;
  trace = c.in_ok-trace.trace;
  satisfied = c.in-Ok.ensures.satisfied;
}
