-- BabyBear4 is a field that extends BabyBear, since 11 is no square there and -1 is one.
use Rattle.std.specs.Prelude.{◌≡◌, ◌≢◌, ◌==◌, ◌&&◌, ◌↔◌, IsTrue, List, length}
use Rattle.std.specs.Prelude.{slice_index_or, refl}
use Rattle.std.proofs.Common.{sym, ◌∙◌, ap, lit<}
use Rattle.algebra.specs.Field.{IsField, IsHomomorphism}
use Rattle.algebra.specs.Polynomial.{sum_below}
use Rattle.algebra.specs.QuarticExtension.{quartic}
use Rattle.algebra.proofs.QuarticExtension.{quartic_field, constants_homomorphism}
use Rattle.algebra.proofs.QuarticExtension.{quartic_mul-constant}
use Rattle.p3_field_core.specs.Basis.{unit_vector}
use Rattle.p3_binomial_extension.proofs.CopyLaws.{carried_field}
use Rattle.p3_binomial_extension.proofs.Pieces.{pieces_injective}
use Rattle.p3_binomial_extension.proofs.QuarticCoefficients.{quartic_injective, quartic_of_list_law}
use Rattle.p3_binomial_extension.proofs.QuarticCoefficients.{quartic_eq, quartic_basis}
use Rattle.p3_baby_bear.specs.declared.baby_bear.BabyBear.{BabyBear}
use Rattle.p3_baby_bear.specs.declared.baby_bear4.BabyBear4.{BabyBear4}
use Rattle.p3_baby_bear.specs.BabyBear.{baby_bear, baby_bear_numbers, element, root}
use Rattle.p3_baby_bear.specs.BabyBear.{number_bytes}
use Rattle.p3_baby_bear.specs.BabyBearLaws.{baby_bear_laws, baby_bear_roots, zero_is, one_is}
use Rattle.p3_baby_bear.specs.BabyBearLaws.{two_is, bytes_length, bytes_injective}
use Rattle.p3_baby_bear.specs.BabyBearLaws.{eleven_is_no_square}
use Rattle.p3_baby_bear.specs.BabyBear4.{baby_bear4, baby_bear4_copies, quartic_of, of_quartic}
use Rattle.p3_baby_bear.specs.BabyBear4.{coefficients4, of_coefficients4, lift4, generator4}
use Rattle.p3_baby_bear.specs.BabyBear4.{coefficient_bytes}

-- the square of the root of order 4
pub minus_one_is_square : baby_bear.mul (root 2) (root 2) ≡ baby_bear.neg baby_bear.one
minus_one_is_square = baby_bear_roots.square 1 (lit< tt) ∙ baby_bear_roots.minus_one (lit< tt)

pub quartic_laws : IsField (quartic baby_bear (element 11))
quartic_laws =
    quartic_field baby_bear baby_bear_laws (element 11) eleven_is_no_square
    (root 2) minus_one_is_square

pub baby_bear4_laws : IsField baby_bear4
unfolding baby_bear4
baby_bear4_laws =
    carried_field baby_bear4_copies (quartic baby_bear (element 11)) quartic_laws

pub same_coefficients : {x y : BabyBear4} → x.constant ≡ y.constant → x.linear ≡ y.linear
    → x.quadratic ≡ y.quadratic → x.cubic ≡ y.cubic → x ≡ y
same_coefficients p q r s =
    λ i. record { constant = p i; linear = q i; quadratic = r i; cubic = s i }

pub eq4_same : (x y : BabyBear4)
    → IsTrue (x.constant.value == y.constant.value &&
    (x.linear.value == y.linear.value &&
    (x.quadratic.value == y.quadratic.value && x.cubic.value == y.cubic.value))) ↔ (x ≡ y)
eq4_same x y =
    let same = quartic_eq 2013265921 baby_bear_numbers (quartic_of x) (quartic_of y) in
    (λ t. ap of_quartic (same.0 t), λ e. same.1 (ap quartic_of e))

pub zero4_is : lift4 (element 0) ≡ baby_bear4.zero
unfolding baby_bear4
zero4_is = same_coefficients zero_is zero_is zero_is zero_is

pub one4_is : lift4 (element 1) ≡ baby_bear4.one
unfolding baby_bear4
one4_is = same_coefficients one_is zero_is zero_is zero_is

pub two4_is : lift4 (element 2) ≡ baby_bear4.add baby_bear4.one baby_bear4.one
unfolding baby_bear4
two4_is = same_coefficients two_is twice_zero twice_zero twice_zero
  where
    twice_zero : element 0 ≡ baby_bear.add baby_bear.zero baby_bear.zero
    twice_zero = zero_is ∙ sym (baby_bear_laws.add_zero baby_bear.zero)

pub generator4_is : generator4 ≢ baby_bear4.zero
unfolding baby_bear4
generator4_is e = baby_bear_laws.one_not_zero (sym one_is ∙ ap (λ (x : BabyBear4). x.linear) e)

pub lift4_homomorphism : IsHomomorphism baby_bear baby_bear4 lift4
unfolding baby_bear4
lift4_homomorphism =
    let H = constants_homomorphism baby_bear baby_bear_laws.ring (element 11) in record {
      zero = rw zero_is (ap of_quartic H.zero);
      one = rw zero_is (ap of_quartic H.one);
      add = λ x y. rw zero_is (ap of_quartic (H.add x y));
      mul = λ x y. rw zero_is (ap of_quartic (H.mul x y));
    }

pub lift4_constant : (x : BabyBear)
    → slice_index_or (coefficients4 (lift4 x)) 0 baby_bear.zero ≡ x
lift4_constant x = refl

pub coefficients4_length : (x : BabyBear4) → length (coefficients4 x) ≡ 4
coefficients4_length x = refl

pub coefficients4_injective : (x y : BabyBear4) → coefficients4 x ≡ coefficients4 y → x ≡ y
coefficients4_injective x y e = ap of_quartic (quartic_injective (quartic_of x) (quartic_of y) e)

pub of_coefficients4_law : (xs : List BabyBear) → length xs ≡ 4
    → coefficients4 (of_coefficients4 xs) ≡ xs
unfolding baby_bear
of_coefficients4_law xs e = quartic_of_list_law baby_bear xs e

-- to multiply by a constant polynomial scales each coefficient
pub scaled_is : (x : BabyBear4) (k : BabyBear)
    → of_quartic (record {
      constant = baby_bear.mul x.constant k;
      linear = baby_bear.mul x.linear k;
      quadratic = baby_bear.mul x.quadratic k;
      cubic = baby_bear.mul x.cubic k;
    })
    ≡ baby_bear4.mul x (lift4 k)
unfolding baby_bear4
scaled_is x k =
    rw zero_is (ap of_quartic (sym (quartic_mul-constant baby_bear baby_bear_laws.ring (element 11)
    (quartic_of x) k)))

-- each element is the sum of its coefficients times the powers of the root
pub coefficients4_basis : (x : BabyBear4) → x ≡ sum_below baby_bear4 4 (λ k. baby_bear4.mul
    (lift4 (slice_index_or (coefficients4 x) k baby_bear.zero))
    (of_coefficients4 (unit_vector baby_bear 4 k)))
unfolding sum_below baby_bear4 baby_bear
coefficients4_basis x =
    ap of_quartic (quartic_basis baby_bear baby_bear_laws.ring (element 11) (quartic_of x))

pub coefficient_bytes_length : (x : BabyBear4) → length (coefficient_bytes x) ≡ 16
coefficient_bytes_length x = refl

-- equal bytes mean equal coefficients
pub coefficient_bytes_injective : (x y : BabyBear4) → coefficient_bytes x ≡ coefficient_bytes y
    → x ≡ y
coefficient_bytes_injective x y e = coefficients4_injective x y
    (pieces_injective number_bytes 4 bytes_length bytes_injective
    (coefficients4 x) (coefficients4 y) refl e)
