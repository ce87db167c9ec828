use Rattle.p3_fri_inputs.proofs.Places.{HoldsBelow}
use Rattle.std.proofs.Common.{length, ◌≡◌}
use Rattle.algebra.specs.Nested.{lists}
use Rattle.p3_fri_inputs.proofs.opening.wrong_count.Given as goal

abbrev pub invariant-loop-k : goal.invariant-loop-k
invariant-loop-k g l =
    HoldsBelow (λ set. lists set.items) (λ rows. length rows ≡ l.matrices) l.sets l.k
