-- What the calls of BabyBear4 keep, in the terms of its field's operations.
use Rattle.std.specs.Prelude.{ℕ, ◌+◌, ◌*◌, ◌/◌, ◌%◌, ◌<◌, ◌≡◌, ◌≢◌, slice_index, slice_index_or}
use Rattle.std.proofs.Common.{sym, ◌∙◌, ap, ap₂, arith, get_or}
use Rattle.std.proofs.Math.Nat.{mul-add-mod_self_right}
use Rattle.algebra.specs.Field.{multiple}
use Rattle.algebra.specs.QuarticExtension.{even_norm, base_norm}
use Rattle.algebra.proofs.QuarticExtension.{base_norm_not_zero}
use Rattle.algebra.proofs.Powers.{homomorphism-multiple}
use Rattle.algebra.proofs.RingLaws.{multiple-mul}
use Rattle.p3_prime_field.proofs.ResidueLaws.{equal}
use Rattle.p3_binomial_extension.proofs.Pieces.{piece_entry}
use Rattle.p3_baby_bear.specs.declared.baby_bear.BabyBear.{BabyBear}
use Rattle.p3_baby_bear.specs.declared.baby_bear4.BabyBear4.{BabyBear4}
use Rattle.p3_baby_bear.specs.BabyBear.{baby_bear, baby_bear_numbers, element, root}
use Rattle.p3_baby_bear.specs.BabyBear.{number_bytes}
use Rattle.p3_baby_bear.specs.BabyBearLaws.{baby_bear_laws, same_number, zero_is, multiple_is}
use Rattle.p3_baby_bear.specs.BabyBearLaws.{multiple_canonical, bytes_length}
use Rattle.p3_baby_bear.specs.BabyBearLaws.{eleven_is_no_square}
use Rattle.p3_baby_bear.specs.BabyBear4.{baby_bear4, quartic_of, of_quartic, lift4}
use Rattle.p3_baby_bear.specs.BabyBear4.{coefficients4, coefficient_bytes}
use Rattle.p3_baby_bear.specs.BabyBear4Laws.{lift4_homomorphism, minus_one_is_square}

pub zero_number : (x : BabyBear) → x.value ≡ 0 → x ≡ baby_bear.zero
zero_number x e = same_number x (element 0) e ∙ zero_is

pub multiple4_is : (n : ℕ) → lift4 (multiple baby_bear n) ≡ multiple baby_bear4 n
multiple4_is n = homomorphism-multiple baby_bear baby_bear4 lift4 lift4_homomorphism n

-- what the inverse divides by
pub norm_not_zero : (x : BabyBear4) → x ≢ baby_bear4.zero
    → base_norm baby_bear (element 11)
    (even_norm baby_bear (element 11) (quartic_of x)) ≢ baby_bear.zero
unfolding baby_bear4
norm_not_zero x n =
    base_norm_not_zero baby_bear baby_bear_laws (element 11) eleven_is_no_square
    (root 2) minus_one_is_square (quartic_of x) (λ e. n (ap of_quartic e))

-- numbers count as the elements that they are the multiples of one for
pub product_is : (a b : BabyBear) → multiple baby_bear (a.value * b.value) ≡ baby_bear.mul a b
product_is a b =
    multiple-mul baby_bear baby_bear_laws.ring a.value b.value
    ∙ ap₂ baby_bear.mul (multiple_canonical a) (multiple_canonical b)

pub eleven_is : multiple baby_bear 11 ≡ element 11
eleven_is = multiple_is 11

-- 11 times a number, where its high half `h` counts `11 * 2^32` modulo the order
pub eleven_times_is : (s h l : ℕ) → h * 4294967296 + l ≡ s
    → multiple baby_bear (h * 939524073 + l * 11)
    ≡ baby_bear.mul (element 11) (multiple baby_bear s)
eleven_times_is s h l e =
    multiple_is (h * 939524073 + l * 11)
    ∙ equal 2013265921 baby_bear_numbers (h * 939524073 + l * 11) (11 * s)
    (sym (ap (λ n. n % 2013265921)
    (let o : 11 * s ≡ h * 23 * 2013265921 + (h * 939524073 + l * 11) = omega (arith, e) in o)
    ∙ mul-add-mod_self_right (h * 23) 2013265921 (h * 939524073 + l * 11)))
    ∙ sym (multiple_is (11 * s))
    ∙ multiple-mul baby_bear baby_bear_laws.ring 11 s
    ∙ ap (λ x. baby_bear.mul x (multiple baby_bear s)) eleven_is

pub coefficient_byte_is : (x : BabyBear4) (i : ℕ) → i < 16
    → slice_index (number_bytes (slice_index_or (coefficients4 x) (i / 4) baby_bear.zero)) (i % 4)
    ≡ slice_index (coefficient_bytes x) i
coefficient_byte_is x i less =
    sym (piece_entry number_bytes 4 bytes_length (coefficients4 x) (i / 4) (i % 4) baby_bear.zero
    (let o : i / 4 < 4 = omega (arith, less) in o) (let o : i % 4 < 4 = omega arith in o))
    ∙ ap (λ k. get_or (coefficient_bytes x) k 0) (let o : i / 4 * 4 + i % 4 ≡ i = omega arith in o)
