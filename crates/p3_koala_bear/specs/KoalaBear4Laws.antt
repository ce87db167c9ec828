-- KoalaBear4 is a field that extends KoalaBear, since 3 is no square there and -1 is one.
use Rattle.std.specs.Prelude.{◌≡◌, ◌≢◌, ◌==◌, ◌&&◌, ◌↔◌, IsTrue, List, length}
use Rattle.std.specs.Prelude.{slice_index_or, refl}
use Rattle.std.proofs.Common.{sym, ◌∙◌, ap, lit<}
use Rattle.algebra.specs.Field.{IsField, IsHomomorphism}
use Rattle.algebra.specs.Polynomial.{sum_below}
use Rattle.algebra.specs.QuarticExtension.{quartic}
use Rattle.algebra.proofs.QuarticExtension.{quartic_field, constants_homomorphism}
use Rattle.algebra.proofs.QuarticExtension.{quartic_mul-constant}
use Rattle.p3_field_core.specs.Basis.{unit_vector}
use Rattle.p3_binomial_extension.proofs.CopyLaws.{carried_field}
use Rattle.p3_binomial_extension.proofs.Pieces.{pieces_injective}
use Rattle.p3_binomial_extension.proofs.QuarticCoefficients.{quartic_injective, quartic_of_list_law}
use Rattle.p3_binomial_extension.proofs.QuarticCoefficients.{quartic_eq, quartic_basis}
use Rattle.p3_koala_bear.specs.declared.koala_bear.KoalaBear.{KoalaBear}
use Rattle.p3_koala_bear.specs.declared.koala_bear4.KoalaBear4.{KoalaBear4}
use Rattle.p3_koala_bear.specs.KoalaBear.{koala_bear, koala_bear_numbers, element, root}
use Rattle.p3_koala_bear.specs.KoalaBear.{number_bytes}
use Rattle.p3_koala_bear.specs.KoalaBearLaws.{koala_bear_laws, koala_bear_roots, zero_is, one_is}
use Rattle.p3_koala_bear.specs.KoalaBearLaws.{two_is, bytes_length, bytes_injective}
use Rattle.p3_koala_bear.specs.KoalaBearLaws.{three_is_no_square}
use Rattle.p3_koala_bear.specs.KoalaBear4.{koala_bear4, koala_bear4_copies, quartic_of, of_quartic}
use Rattle.p3_koala_bear.specs.KoalaBear4.{coefficients4, of_coefficients4, lift4, generator4}
use Rattle.p3_koala_bear.specs.KoalaBear4.{coefficient_bytes}

-- the square of the root of order 4
pub minus_one_is_square : koala_bear.mul (root 2) (root 2) ≡ koala_bear.neg koala_bear.one
minus_one_is_square = koala_bear_roots.square 1 (lit< tt) ∙ koala_bear_roots.minus_one (lit< tt)

pub quartic_laws : IsField (quartic koala_bear (element 3))
quartic_laws =
    quartic_field koala_bear koala_bear_laws (element 3) three_is_no_square
    (root 2) minus_one_is_square

pub koala_bear4_laws : IsField koala_bear4
unfolding koala_bear4
koala_bear4_laws =
    carried_field koala_bear4_copies (quartic koala_bear (element 3)) quartic_laws

pub same_coefficients : {x y : KoalaBear4} → x.constant ≡ y.constant → x.linear ≡ y.linear
    → x.quadratic ≡ y.quadratic → x.cubic ≡ y.cubic → x ≡ y
same_coefficients p q r s =
    λ i. record { constant = p i; linear = q i; quadratic = r i; cubic = s i }

pub eq4_same : (x y : KoalaBear4)
    → IsTrue (x.constant.value == y.constant.value &&
    (x.linear.value == y.linear.value &&
    (x.quadratic.value == y.quadratic.value && x.cubic.value == y.cubic.value))) ↔ (x ≡ y)
eq4_same x y =
    let same = quartic_eq 2130706433 koala_bear_numbers (quartic_of x) (quartic_of y) in
    (λ t. ap of_quartic (same.0 t), λ e. same.1 (ap quartic_of e))

pub zero4_is : lift4 (element 0) ≡ koala_bear4.zero
unfolding koala_bear4
zero4_is = same_coefficients zero_is zero_is zero_is zero_is

pub one4_is : lift4 (element 1) ≡ koala_bear4.one
unfolding koala_bear4
one4_is = same_coefficients one_is zero_is zero_is zero_is

pub two4_is : lift4 (element 2) ≡ koala_bear4.add koala_bear4.one koala_bear4.one
unfolding koala_bear4
two4_is = same_coefficients two_is twice_zero twice_zero twice_zero
  where
    twice_zero : element 0 ≡ koala_bear.add koala_bear.zero koala_bear.zero
    twice_zero = zero_is ∙ sym (koala_bear_laws.add_zero koala_bear.zero)

pub generator4_is : generator4 ≢ koala_bear4.zero
unfolding koala_bear4
generator4_is e = koala_bear_laws.one_not_zero (sym one_is ∙ ap (λ (x : KoalaBear4). x.linear) e)

pub lift4_homomorphism : IsHomomorphism koala_bear koala_bear4 lift4
unfolding koala_bear4
lift4_homomorphism =
    let H = constants_homomorphism koala_bear koala_bear_laws.ring (element 3) in record {
      zero = rw zero_is (ap of_quartic H.zero);
      one = rw zero_is (ap of_quartic H.one);
      add = λ x y. rw zero_is (ap of_quartic (H.add x y));
      mul = λ x y. rw zero_is (ap of_quartic (H.mul x y));
    }

pub lift4_constant : (x : KoalaBear)
    → slice_index_or (coefficients4 (lift4 x)) 0 koala_bear.zero ≡ x
lift4_constant x = refl

pub coefficients4_length : (x : KoalaBear4) → length (coefficients4 x) ≡ 4
coefficients4_length x = refl

pub coefficients4_injective : (x y : KoalaBear4) → coefficients4 x ≡ coefficients4 y → x ≡ y
coefficients4_injective x y e = ap of_quartic (quartic_injective (quartic_of x) (quartic_of y) e)

pub of_coefficients4_law : (xs : List KoalaBear) → length xs ≡ 4
    → coefficients4 (of_coefficients4 xs) ≡ xs
of_coefficients4_law xs e = quartic_of_list_law koala_bear xs e

-- to multiply by a constant polynomial scales each coefficient
pub scaled_is : (x : KoalaBear4) (k : KoalaBear)
    → of_quartic (record {
      constant = koala_bear.mul x.constant k;
      linear = koala_bear.mul x.linear k;
      quadratic = koala_bear.mul x.quadratic k;
      cubic = koala_bear.mul x.cubic k;
    })
    ≡ koala_bear4.mul x (lift4 k)
unfolding koala_bear4
scaled_is x k =
    rw zero_is (ap of_quartic (sym (quartic_mul-constant koala_bear koala_bear_laws.ring (element 3)
    (quartic_of x) k)))

-- each element is the sum of its coefficients times the powers of the root
pub coefficients4_basis : (x : KoalaBear4) → x ≡ sum_below koala_bear4 4 (λ k. koala_bear4.mul
    (lift4 (slice_index_or (coefficients4 x) k koala_bear.zero))
    (of_coefficients4 (unit_vector koala_bear 4 k)))
unfolding sum_below koala_bear4
coefficients4_basis x =
    rw zero_is
    (ap of_quartic (quartic_basis koala_bear koala_bear_laws.ring (element 3) (quartic_of x)))

pub coefficient_bytes_length : (x : KoalaBear4) → length (coefficient_bytes x) ≡ 16
coefficient_bytes_length x = refl

-- equal bytes mean equal coefficients
pub coefficient_bytes_injective : (x y : KoalaBear4) → coefficient_bytes x ≡ coefficient_bytes y
    → x ≡ y
coefficient_bytes_injective x y e = coefficients4_injective x y
    (pieces_injective number_bytes 4 bytes_length bytes_injective
    (coefficients4 x) (coefficients4 y) refl e)
