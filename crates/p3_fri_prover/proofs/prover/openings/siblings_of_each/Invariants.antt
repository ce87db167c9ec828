use Rattle.std.proofs.Common.{◌≡◌, ◌%◌, ◌≤◌, ℕ, [], get_or, remove}
use Rattle.algebra.specs.Nested.{lists, nested}
use Rattle.algebra.specs.Polynomial.{tabulate}
use Rattle.p3_fri_prover.proofs.prover.openings.siblings_of_each.Given as goal

abbrev pub invariant-loop-j : goal.invariant-loop-j
invariant-loop-j g l = record {
  taken : lists l.sibling_values.items ≡ tabulate l.j (λ j.
      remove (get_or (get_or (nested l.fn.opened) j []) 0 []) (get_or l.indices j 0 % l.arity));
  others : (k : ℕ) → l.j ≤ k → get_or (nested l.opened) k [] ≡ get_or (nested l.fn.opened) k [];
}
