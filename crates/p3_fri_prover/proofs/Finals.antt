-- The final polynomial, from the entries that are cut off.
use Rattle.std.proofs.Common.{◌≡◌, ℕ, ◌^◌, ◌≤◌, List, [], ◌∷◌, length, take, get_or, arith}
use Rattle.std.proofs.Common.{ap, subst, pow_pos, length-take-le}
use Rattle.algebra.specs.Field.{FieldOps, IsField, pow}
use Rattle.algebra.specs.Polynomial.{tabulate}
use Rattle.algebra.specs.Interpolation.{Interpolates}
use Rattle.algebra.specs.Digits.{rev}
use Rattle.algebra.specs.TwoAdic.{AreRoots}
use Rattle.algebra.specs.Rounds.{final_polynomial}
use Rattle.algebra.proofs.FinalPolynomials.{final_polynomial_by_transform}
use Rattle.p3_field_core.specs.Index.{bit_reversed}

module _ {A : Type 0} (F : FieldOps A) (L : IsField F) (top : ℕ) (w : ℕ → A)
    (W : AreRoots F top w) where
  from_turned : (l : ℕ) (ys cut p : List A) → l ≤ top → 2 ^ l ≤ length ys → cut ≡ take (2 ^ l) ys
      → Interpolates F (tabulate (2 ^ l) (λ i. pow F (w l) i)) (bit_reversed l cut) p
      → p ≡ final_polynomial F w l ys
  unfolding bit_reversed
  from_turned l ys [] p t n e h =
      absurd (omega (arith, length-take-le (2 ^ l) ys n, ap length e, pow_pos l))
  from_turned l ys (d ∷ cut) p t n e h =
      final_polynomial_by_transform F L top w W l ys p d t n
      (subst (λ zs. Interpolates F (tabulate (2 ^ l) (λ i. pow F (w l) i))
      (tabulate (2 ^ l) (λ i. get_or zs (rev l i) d)) p) e h)

  -- what the inverse transform gives of the turned entries
  pub final_polynomial_of_cut : (l : ℕ) (ys cut turned p : List A) → l ≤ top → 2 ^ l ≤ length ys
      → cut ≡ take (2 ^ l) ys → turned ≡ bit_reversed l cut
      → Interpolates F (tabulate (2 ^ l) (λ i. pow F (w l) i)) turned p
      → p ≡ final_polynomial F w l ys
  final_polynomial_of_cut l ys cut turned p t n e f h =
      from_turned l ys cut p t n e
      (subst (λ zs. Interpolates F (tabulate (2 ^ l) (λ i. pow F (w l) i)) zs p) f h)
