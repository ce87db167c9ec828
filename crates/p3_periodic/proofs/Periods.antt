-- Periods as powers of two, and what an inverse transform of a column tells of its values.
use Rattle.std.proofs.Common.{◌≡◌, ℕ, ◌-◌, ◌%◌, ◌^◌, ◌≤◌, List, length, pow_pos, sym, ◌∙◌}
use Rattle.std.proofs.Common.{ap, arith, inl, inr, subst}
use Rattle.std.proofs.lemmas.Bool.{cases_lt}
use Rattle.std.proofs.Math.Nat.{mod-eq_of_lt}
use Rattle.std.proofs.Math.Pow.{pow-lt}
use Rattle.algebra.specs.Field.{FieldOps, IsField, pow}
use Rattle.algebra.specs.Polynomial.{val}
use Rattle.algebra.specs.TwoAdic.{AreRoots}
use Rattle.algebra.specs.Interpolation.{Interpolates}
use Rattle.algebra.specs.Periodic.{periodic_value}
use Rattle.p3_field_core.proofs.IndexPowers.{exponents_agree}
use Rattle.p3_dft.specs.Evaluations.{subgroup_points}
use Rattle.p3_periodic.specs.Values.{IsValueOf}
use Rattle.p3_periodic.proofs.Unique.{is_interpolant}

-- a power of two that divides another has no greater exponent
pub exponent_within : (n k : ℕ) → 2 ^ n % 2 ^ k ≡ 0 → k ≤ n
exponent_within n k e = elim (cases_lt n k) [
  | inl l ↦ absurd (omega (arith, pow_pos n, sym (mod-eq_of_lt (pow-lt l)) ∙ e))
  | inr l ↦ l
]

module _ {A : Type 0} (F : FieldOps A) (L : IsField F) (top : ℕ) (w : ℕ → A)
    (W : AreRoots F top w) where
  -- the value of what the inverse transform gives is the column's
  pub value_of_coefficients : (k n : ℕ) (column c : List A) (z power value : A) → k ≤ top
      → Interpolates F (subgroup_points F (w k) k) column c
      → power ≡ pow F z (2 ^ (n - k)) → value ≡ val F c power
      → value ≡ periodic_value F w k n column z
  unfolding periodic_value
  value_of_coefficients k n column c z power value t known p v =
      v ∙ ap (λ x. val F c x) p
      ∙ ap (λ d. val F d (pow F z (2 ^ (n - k)))) (is_interpolant F L top w W k column c t known)

  -- and so that of the column whatever the exponent of its length is called
  pub is_value : (k n : ℕ) (column lifted c : List A) (z power value : A) → k ≤ top
      → length column ≡ 2 ^ k → lifted ≡ column
      → Interpolates F (subgroup_points F (w k) k) lifted c
      → power ≡ pow F z (2 ^ (n - k)) → value ≡ val F c power
      → IsValueOf F w n z column value
  unfolding IsValueOf
  is_value k n column lifted c z power value t size same known p v j e =
      value_of_coefficients k n column c z power value t
      (subst (λ ys. Interpolates F (subgroup_points F (w k) k) ys c) same known) p v
      ∙ ap (λ i. periodic_value F w i n column z) (exponents_agree k j (sym size ∙ e))
