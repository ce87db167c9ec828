use Rattle.std.proofs.Common.{◌≡◌, ℕ, ◌-◌, ◌^◌, length}
use Rattle.algebra.specs.Digits.{rev}
use Rattle.p3_field_core.proofs.IndexSwaps.{SwapsPairsBelow}
use Rattle.p3_field_core.proofs.index.reverse_slice_index_bits.Given as goal

abbrev pub invariant-loop-i : goal.invariant-loop-i
invariant-loop-i g l =
    (k : ℕ) → length l.initial.vals ≡ 2 ^ k
    → SwapsPairsBelow k l.initial.vals l.i l.vals × (l.j ≡ rev k (l.i - 1))
