-- The orders of roots of unity.
use Rattle.std.proofs.Common.{ℕ, ◌≡◌, ◌<◌, ◌≤◌, ◌^◌, sym, ◌∙◌, arith}
use Rattle.algebra.specs.Field.{FieldOps, IsField}
use Rattle.algebra.specs.TwoAdic.{AreRoots}
use Rattle.algebra.proofs.Powers.{pow-zero}
use Rattle.algebra.proofs.Points.{full_turn, powers_differ}
use Rattle.p3_field_core.specs.Order.{HasOrder}

pub root_order : {A : Type 0} (F : FieldOps A) → IsField F → (top : ℕ) (w : ℕ → A)
    → AreRoots F top w → (k : ℕ) → k ≤ top → HasOrder F (w k) (2 ^ k)
root_order F L top w W k b = record {
  turns = full_turn F L top w W k b;
  least = λ m pos less e. zero_not_below m pos
      (sym (powers_differ F L top w W k 0 m b (omega (arith, pos, less)) less
      (pow-zero F (w k) ∙ sym e)));
}
  where
    zero_not_below : (m : ℕ) → 0 < m → m ≡ 0 → ⊥
    zero_not_below m pos e = omega (arith, pos, e)
