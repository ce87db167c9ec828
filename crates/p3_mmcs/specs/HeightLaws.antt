-- A number is a power of two in one way.
use mathlib.Core.HLevel.{Σ_prop_path}
use Rattle.std.specs.Coded.{Coded-set, coded_ℕ, Π_prop}
use Rattle.std.specs.Prelude.{ℕ, ◌^◌, List}
use Rattle.std.proofs.Common.{sym, ◌∙◌}
use Rattle.std.specs.Int.{IsPowerOfTwo}
use Rattle.p3_field_core.proofs.IndexPowers.{exponents_agree}
use Rattle.p3_matrix.specs.declared.Dimensions.{Dimensions}
use Rattle.p3_mmcs.specs.Batch.{HavePowerHeights}

power_prop : (n : ℕ) → IsProp (IsPowerOfTwo n)
power_prop n p q =
    Σ_prop_path (λ k. Coded-set coded_ℕ n (2 ^ k)) (exponents_agree p.0 q.0 (sym p.1 ∙ q.1))

pub heights_prop : (dims : List Dimensions) → IsProp (HavePowerHeights dims)
heights_prop dims = Π_prop (λ k. Π_prop (λ d. Π_prop (λ l. power_prop _)))
