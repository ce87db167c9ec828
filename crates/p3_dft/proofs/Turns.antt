-- Half a turn of the roots of unity and of their inverses.
use Rattle.std.proofs.Common.{◌≡◌, ℕ, zero, suc, ◌-◌, ◌^◌, ◌<◌, ◌≤◌, refl, sym, ap, ◌∙◌, arith}
use Rattle.algebra.specs.Field.{FieldOps, IsRing, IsField, pow}
use Rattle.algebra.specs.TwoAdic.{AreRoots}
use Rattle.algebra.proofs.Ring.{◌:*◌, ◌:=◌, ring, minus, :1}
use Rattle.algebra.proofs.Powers.{pow-times, pow-one_base}
use Rattle.algebra.proofs.Points.{root-nonzero, half_turn}

-- an inverse turns as far
pub inverse_turn : {A : Type 0} (F : FieldOps A) → IsRing F → (x y : A) (n : ℕ) → F.mul x y ≡ F.one → pow F x n ≡ F.neg F.one → pow F y n ≡ F.neg F.one
inverse_turn F R x y n inverse turn =
    ring F R 1 (λ p. p := minus (minus :1 :* p)) refl (pow F y n)
    ∙ ap F.neg (ap (λ t. F.mul t (pow F y n)) (sym turn) ∙ pow-times F R x y n ∙ ap (λ t. pow F t n) inverse ∙ pow-one_base F R n)

module _ {A : Type 0} (F : FieldOps A) (L : IsField F) (top : ℕ) (w : ℕ → A) (W : AreRoots F top w) where
  pub root_turn : (k : ℕ) → 0 < k → k ≤ top → pow F (w k) (2 ^ (k - 1)) ≡ F.neg F.one
  root_turn zero some b = absurd (omega (arith, some))
  root_turn (suc k) some b = ap (λ n. pow F (w (suc k)) (2 ^ n)) (let e : suc k - 1 ≡ k = omega arith in e) ∙ half_turn F L top w W k b

  -- as a call gives the root and its inverse
  pub inverse_of_root : (k : ℕ) (root inverse : A) → k ≤ top → root ≡ w k → inverse ≡ F.inv root → F.mul (w k) inverse ≡ F.one
  inverse_of_root k root inverse b e i = ap (λ y. F.mul (w k) y) (i ∙ ap F.inv e) ∙ L.mul_inv (w k) (root-nonzero F L top w W k b)
