use Rattle.std.proofs.Common.{◌≡◌, ℕ, ◌<◌, [], length, get_or}
use Rattle.algebra.specs.Nested.{lists}
use Rattle.p3_fri_verifier.proofs.siblings.other_length.Given as goal

abbrev pub invariant-loop-row : goal.invariant-loop-row
invariant-loop-row g l = (k : ℕ) → k < l.row-index → length (get_or (lists l.rows) k []) ≡ l.wanted
