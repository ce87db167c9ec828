use Rattle.std.proofs.Common.{◌≡◌, ℕ, ◌-◌, ◌/◌, ◌^◌, length}
use Rattle.algebra.specs.Digits.{rev}
use Rattle.p3_field_core.proofs.IndexSwaps.{SwapsPairsBelow}
use Rattle.p3_matrix.specs.Rows.{rows_of}
use Rattle.p3_matrix.proofs.dense.reverse_row_index_bits.Given as goal

abbrev pub invariant-loop-i : goal.invariant-loop-i
invariant-loop-i g l =
    (k : ℕ) → length l.initial.values / l.width ≡ 2 ^ k
    → SwapsPairsBelow k (rows_of l.width l.initial.values) l.i (rows_of l.width l.values)
    × (l.j ≡ rev k (l.i - 1))
