-- Zero is off each coset, so the barycentric sum there is the value, which is the coefficient of
-- one.
use Rattle.std.proofs.Common.{◌≡◌, ℕ, ◌+◌, List, [], ◌∷◌, map, get_or, refl, sym, ap, ◌∙◌, arith}
use Rattle.algebra.specs.Field.{FieldOps, IsField, IsHomomorphism}
use Rattle.algebra.specs.Polynomial.{val}
use Rattle.algebra.specs.TwoAdic.{AreRoots, pt}
use Rattle.algebra.specs.Cosets.{coset_pt, IsOffCoset}
use Rattle.algebra.specs.Words.{coset_word}
use Rattle.algebra.specs.Barycentric.{barycentric}
use Rattle.algebra.proofs.Ring.{◌:+◌, ◌:*◌, ◌:=◌, ring, o}
use Rattle.algebra.proofs.Combine.{cancel_zero}
use Rattle.algebra.proofs.Points.{point-nonzero}
use Rattle.algebra.proofs.Values.{val-nil, val-cons}
use Rattle.algebra.proofs.Lifting.{homomorphism-zero}
use Rattle.algebra.proofs.Barycentric.{barycentric_value}
use Rattle.algebra_tests.specs.ValueAtZero.{ValuesAtZero}

module _ {A E : Type 0} (F : FieldOps A) (K : FieldOps E) (lift : A → E) (L : IsField F) (M : IsField K)
    (H : IsHomomorphism F K lift) where
  first_coefficient : (c : List A) → val K (map lift c) K.zero ≡ lift (get_or c 0 F.zero)
  first_coefficient [] = val-nil K M.ring K.zero ∙ sym H.zero
  first_coefficient (c ∷ cs) =
      val-cons K M.ring (lift c) (map lift cs) K.zero
      ∙ ring K M.ring 2 (λ c v. c :+ o :* v := c) refl (lift c) (val K (map lift cs) K.zero)

  pub values_at_zero : (top : ℕ) (w : ℕ → A) → AreRoots F top w → ValuesAtZero F K lift top w
  values_at_zero top w W shift n k b c s = record {
    off = off;
    value = ap (λ j. barycentric F K lift w shift k (coset_word F w shift j c) K.zero) (let e : k ≡ k + 0 = omega arith in e)
        ∙ barycentric_value F K lift L M H top w W shift n k 0 (omega (arith, b)) c s K.zero off
        ∙ first_coefficient c;
  }
    where
      off : IsOffCoset F lift w shift k K.zero
      off = λ i l e.
          point-nonzero F L top w W i k b
          (cancel_zero F L shift (pt F w i k) n (homomorphism-zero F K lift L M H (coset_pt F w shift i k) e))
