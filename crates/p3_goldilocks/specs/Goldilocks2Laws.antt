-- Goldilocks2 is a field that extends Goldilocks, since 7 is no square there.
use Rattle.std.specs.Prelude.{◌≡◌, ◌≢◌, ◌==◌, ◌&&◌, ◌↔◌, IsTrue, List, length}
use Rattle.std.specs.Prelude.{slice_index_or, refl}
use Rattle.std.proofs.Common.{sym, ◌∙◌, ap, lit<}
use Rattle.algebra.specs.Field.{IsField, IsHomomorphism}
use Rattle.algebra.specs.Polynomial.{sum_below}
use Rattle.p3_field_core.specs.Basis.{unit_vector}
use Rattle.p3_binomial_extension.proofs.CopyLaws.{carried_field}
use Rattle.p3_binomial_extension.proofs.Pieces.{pieces_injective}
use Rattle.p3_binomial_extension.proofs.QuadraticField.{quadratic_field, quadratic_constants}
use Rattle.p3_binomial_extension.proofs.QuadraticField.{quadratic_mul-constant, quadratic_eq}
use Rattle.p3_binomial_extension.proofs.QuadraticField.{quadratic_injective, quadratic_basis}
use Rattle.p3_binomial_extension.proofs.QuadraticField.{quadratic_of_list_law}
use Rattle.p3_binomial_extension.specs.Quadratic.{quadratic}
use Rattle.p3_goldilocks.specs.declared.goldilocks.Goldilocks.{Goldilocks}
use Rattle.p3_goldilocks.specs.declared.goldilocks2.Goldilocks2.{Goldilocks2}
use Rattle.p3_goldilocks.specs.Goldilocks.{goldilocks, goldilocks_numbers, element}
use Rattle.p3_goldilocks.specs.Goldilocks.{number_bytes}
use Rattle.p3_goldilocks.specs.GoldilocksLaws.{goldilocks_laws, zero_is, one_is}
use Rattle.p3_goldilocks.specs.GoldilocksLaws.{two_is, bytes_length, bytes_injective, not_zero}
use Rattle.p3_goldilocks.specs.GoldilocksLaws.{seven_is_no_square}
use Rattle.p3_goldilocks.specs.Goldilocks2.{goldilocks2, goldilocks2_copies}
use Rattle.p3_goldilocks.specs.Goldilocks2.{quadratic_of, of_quadratic}
use Rattle.p3_goldilocks.specs.Goldilocks2.{coefficients2, of_coefficients2, lift2, generator2}
use Rattle.p3_goldilocks.specs.Goldilocks2.{coefficient_bytes}

pub quadratic_laws : IsField (quadratic goldilocks (element 7))
quadratic_laws = quadratic_field goldilocks goldilocks_laws (element 7) seven_is_no_square

pub goldilocks2_laws : IsField goldilocks2
unfolding goldilocks2
goldilocks2_laws =
    carried_field goldilocks2_copies (quadratic goldilocks (element 7)) quadratic_laws

pub same_coefficients : {x y : Goldilocks2} → x.constant ≡ y.constant → x.linear ≡ y.linear
    → x ≡ y
same_coefficients p q = λ i. record { constant = p i; linear = q i }

pub eq2_same : (x y : Goldilocks2)
    → IsTrue (x.constant.value == y.constant.value && x.linear.value == y.linear.value) ↔ (x ≡ y)
eq2_same x y =
    let same =
    quadratic_eq 18446744069414584321 goldilocks_numbers (quadratic_of x) (quadratic_of y) in
    (λ t. ap of_quadratic (same.0 t), λ e. same.1 (ap quadratic_of e))

pub zero2_is : lift2 (element 0) ≡ goldilocks2.zero
unfolding goldilocks2
zero2_is = same_coefficients zero_is zero_is

pub one2_is : lift2 (element 1) ≡ goldilocks2.one
unfolding goldilocks2
one2_is = same_coefficients one_is zero_is

pub two2_is : lift2 (element 2) ≡ goldilocks2.add goldilocks2.one goldilocks2.one
unfolding goldilocks2
two2_is = same_coefficients two_is twice_zero
  where
    twice_zero : element 0 ≡ goldilocks.add goldilocks.zero goldilocks.zero
    twice_zero = zero_is ∙ sym (goldilocks_laws.add_zero goldilocks.zero)

pub generator2_is : generator2 ≢ goldilocks2.zero
unfolding goldilocks2
generator2_is e =
    not_zero 16121475356294670766 (lit< tt) (lit< tt) (ap (λ (x : Goldilocks2). x.linear) e)

pub lift2_homomorphism : IsHomomorphism goldilocks goldilocks2 lift2
unfolding goldilocks2
lift2_homomorphism =
    let H = quadratic_constants goldilocks goldilocks_laws.ring (element 7) in record {
      zero = rw zero_is (ap of_quadratic H.zero);
      one = rw zero_is (ap of_quadratic H.one);
      add = λ x y. rw zero_is (ap of_quadratic (H.add x y));
      mul = λ x y. rw zero_is (ap of_quadratic (H.mul x y));
    }

pub lift2_constant : (x : Goldilocks)
    → slice_index_or (coefficients2 (lift2 x)) 0 goldilocks.zero ≡ x
lift2_constant x = refl

pub coefficients2_length : (x : Goldilocks2) → length (coefficients2 x) ≡ 2
coefficients2_length x = refl

pub coefficients2_injective : (x y : Goldilocks2) → coefficients2 x ≡ coefficients2 y → x ≡ y
coefficients2_injective x y e =
    ap of_quadratic (quadratic_injective (quadratic_of x) (quadratic_of y) e)

pub of_coefficients2_law : (xs : List Goldilocks) → length xs ≡ 2
    → coefficients2 (of_coefficients2 xs) ≡ xs
of_coefficients2_law xs e = quadratic_of_list_law goldilocks xs e

-- to multiply by a constant polynomial scales each coefficient
pub scaled_is : (x : Goldilocks2) (k : Goldilocks)
    → of_quadratic (record {
      constant = goldilocks.mul x.constant k;
      linear = goldilocks.mul x.linear k;
    })
    ≡ goldilocks2.mul x (lift2 k)
unfolding goldilocks2
scaled_is x k =
    rw zero_is (ap of_quadratic
    (sym (quadratic_mul-constant goldilocks goldilocks_laws.ring (element 7) (quadratic_of x) k)))

-- each element is the sum of its coefficients times one and the root
pub coefficients2_basis : (x : Goldilocks2) → x ≡ sum_below goldilocks2 2 (λ k. goldilocks2.mul
    (lift2 (slice_index_or (coefficients2 x) k goldilocks.zero))
    (of_coefficients2 (unit_vector goldilocks 2 k)))
unfolding sum_below goldilocks2
coefficients2_basis x =
    rw zero_is
    (ap of_quadratic (quadratic_basis goldilocks goldilocks_laws.ring (element 7) (quadratic_of x)))

pub coefficient_bytes_length : (x : Goldilocks2) → length (coefficient_bytes x) ≡ 16
coefficient_bytes_length x = refl

-- equal bytes mean equal coefficients
pub coefficient_bytes_injective : (x y : Goldilocks2) → coefficient_bytes x ≡ coefficient_bytes y
    → x ≡ y
coefficient_bytes_injective x y e = coefficients2_injective x y
    (pieces_injective number_bytes 8 bytes_length bytes_injective
    (coefficients2 x) (coefficients2 y) refl e)
