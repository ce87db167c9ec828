-- Quotients by powers of two, by halving.
use Rattle.std.proofs.Common.{◌≡◌, ℕ, ◌+◌, ◌^◌, refl, ap, ◌∙◌, add-one}
use Rattle.algebra.specs.Field.{FieldOps, IsRing, multiple}
use Rattle.algebra.proofs.Ring.{◌:+◌, ◌:*◌, ◌:=◌, ring}
use Rattle.algebra.proofs.RingLaws.{multiple-one, multiple-add, one_mul}
use Rattle.algebra.proofs.Powers.{double}

module _ {A : Type 0} (F : FieldOps A) (R : IsRing F) where
  pub not_halved : (x : A) → F.mul (multiple F (2 ^ 0)) x ≡ x
  not_halved x = ap (λ n. F.mul n x) (multiple-one F R) ∙ one_mul F R x

  pub halved_once_more : (k : ℕ) (x quotient half : A) → F.add half half ≡ quotient
      → F.mul (multiple F (2 ^ k)) quotient ≡ x → F.mul (multiple F (2 ^ (k + 1))) half ≡ x
  halved_once_more k x quotient half twice e =
      ap (λ n. F.mul n half) (ap (λ n. multiple F (2 ^ n)) (add-one k) ∙ ap (multiple F) (double k)
      ∙ multiple-add F R (2 ^ k) (2 ^ k))
      ∙ ring F R 2 (λ m h. (m :+ m) :* h := m :* (h :+ h)) refl (multiple F (2 ^ k)) half
      ∙ ap (λ y. F.mul (multiple F (2 ^ k)) y) twice
      ∙ e
