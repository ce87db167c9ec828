use Rattle.std.proofs.Common.{◌≡◌, ◌++◌, length, map, take}
use Rattle.p3_uni_stark_phases.proofs.quotient.on_domains.Given as goal

-- the pairs so far
abbrev pub invariant-loop-matrix : goal.invariant-loop-matrix
invariant-loop-matrix g l = record {
  firsts : map (λ e. e.0) l.pairs.items ≡ take (length l.yielded) l.domains;
  seconds : map (λ e. e.1) l.pairs.items ≡ l.yielded;
  whole : l.yielded ++ l.matrix-iterator.rest.items ≡ l.fn.matrices.items;
  count : l.matrix-iterator.rest.len ≡ length l.matrix-iterator.rest.items;
}
