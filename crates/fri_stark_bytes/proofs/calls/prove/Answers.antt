use Rattle.fri_stark_bytes.proofs.calls.prove.Goals as goal

pub returns-in-Ok-prove : goal.returns-in-Ok-prove
returns-in-Ok-prove g c = record {
  system = c.in_ok-system.system;
  trace = c.in_ok-trace.trace;
  satisfied = c.in-Ok-prove.ensures.satisfied;
}
