-- A field extends itself: the laws of that extension.
use Rattle.std.specs.Prelude.{◌≡◌, List, [], ◌∷◌, length, slice_index_or, refl}
use Rattle.std.proofs.Common.{arith, sym, ◌∙◌}
use Rattle.algebra.specs.Field.{FieldOps, IsField}
use Rattle.algebra.specs.Polynomial.{sum_below}
use Rattle.p3_field_core.specs.Basis.{unit_vector}

pub self_lift : {A : Type 0} (x : A) → x ≡ x
self_lift x = refl

pub self_length : {A : Type 0} (x : A) → length (x ∷ []) ≡ 1
self_length x = refl

pub self_injective : {A : Type 0} (x y : A) → x ∷ [] ≡ y ∷ [] → x ≡ y
self_injective x y e = cc

pub self_of_coefficients : {A : Type 0} (z : A) (xs : List A) → length xs ≡ 1
    → slice_index_or xs 0 z ∷ [] ≡ xs
self_of_coefficients z [] e = absurd (omega arith)
self_of_coefficients z (x ∷ []) e = refl
self_of_coefficients z (x ∷ y ∷ ys) e = absurd (omega arith)

pub self_basis : {A : Type 0} (F : FieldOps A) → IsField F → (x : A)
    → x ≡ sum_below F 1 (λ k. F.mul (slice_index_or (x ∷ []) k F.zero)
    (slice_index_or (unit_vector F 1 k) 0 F.zero))
unfolding sum_below
self_basis F L x = sym (L.add_zero (F.mul x F.one) ∙ L.mul_one x)
