-- Proofs of work of no bits.
use Rattle.std.proofs.Common.{◌≡◌, ℕ, true, Option, Some, None, refl}
use Rattle.p3_challenger_core.specs.Run.{After}
use Rattle.p3_fri_pow.specs.Pow.{shown_attempt}

-- at no bits every witness passes, and a missing one too
pub no_bits : {C F : Type 0} (observe : C → F → C) (draw_bits : C → ℕ → After C ℕ) (c : C) (witness : Option F)
    → shown_attempt observe draw_bits c 0 witness ≡ record { value = true; state = c }
no_bits observe draw_bits c None = refl
no_bits observe draw_bits c (Some w) = refl
