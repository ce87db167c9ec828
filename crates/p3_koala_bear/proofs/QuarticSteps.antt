-- What the calls of KoalaBear4 keep, in the terms of its field's operations.
use Rattle.std.specs.Prelude.{ℕ, ◌+◌, ◌*◌, ◌/◌, ◌%◌, ◌<◌, ◌≡◌, ◌≢◌, slice_index, slice_index_or}
use Rattle.std.proofs.Common.{sym, ◌∙◌, ap, ap₂, arith, get_or}
use Rattle.std.proofs.Math.Nat.{mul-add-mod_self_right}
use Rattle.algebra.specs.Field.{multiple}
use Rattle.algebra.specs.QuarticExtension.{even_norm, base_norm}
use Rattle.algebra.proofs.QuarticExtension.{base_norm_not_zero}
use Rattle.algebra.proofs.Powers.{homomorphism-multiple}
use Rattle.algebra.proofs.RingLaws.{multiple-mul}
use Rattle.p3_prime_field.proofs.ResidueLaws.{equal}
use Rattle.p3_binomial_extension.proofs.Pieces.{piece_entry}
use Rattle.p3_koala_bear.specs.declared.koala_bear.KoalaBear.{KoalaBear}
use Rattle.p3_koala_bear.specs.declared.koala_bear4.KoalaBear4.{KoalaBear4}
use Rattle.p3_koala_bear.specs.KoalaBear.{koala_bear, koala_bear_numbers, element, root}
use Rattle.p3_koala_bear.specs.KoalaBear.{number_bytes}
use Rattle.p3_koala_bear.specs.KoalaBearLaws.{koala_bear_laws, same_number, zero_is, multiple_is}
use Rattle.p3_koala_bear.specs.KoalaBearLaws.{multiple_canonical, bytes_length}
use Rattle.p3_koala_bear.specs.KoalaBearLaws.{three_is_no_square}
use Rattle.p3_koala_bear.specs.KoalaBear4.{koala_bear4, quartic_of, of_quartic, lift4}
use Rattle.p3_koala_bear.specs.KoalaBear4.{coefficients4, coefficient_bytes}
use Rattle.p3_koala_bear.specs.KoalaBear4Laws.{lift4_homomorphism, minus_one_is_square}

pub zero_number : (x : KoalaBear) → x.value ≡ 0 → x ≡ koala_bear.zero
zero_number x e = same_number x (element 0) e ∙ zero_is

pub multiple4_is : (n : ℕ) → lift4 (multiple koala_bear n) ≡ multiple koala_bear4 n
multiple4_is n = homomorphism-multiple koala_bear koala_bear4 lift4 lift4_homomorphism n

-- what the inverse divides by
pub norm_not_zero : (x : KoalaBear4) → x ≢ koala_bear4.zero
    → base_norm koala_bear (element 3)
    (even_norm koala_bear (element 3) (quartic_of x)) ≢ koala_bear.zero
unfolding koala_bear4
norm_not_zero x n =
    base_norm_not_zero koala_bear koala_bear_laws (element 3) three_is_no_square
    (root 2) minus_one_is_square (quartic_of x) (λ e. n (ap of_quartic e))

-- numbers count as the elements that they are the multiples of one for
pub product_is : (a b : KoalaBear) → multiple koala_bear (a.value * b.value) ≡ koala_bear.mul a b
product_is a b =
    multiple-mul koala_bear koala_bear_laws.ring a.value b.value
    ∙ ap₂ koala_bear.mul (multiple_canonical a) (multiple_canonical b)

pub three_is : multiple koala_bear 3 ≡ element 3
three_is = multiple_is 3

-- 3 times a number, where its high half `h` counts `3 * 2^32` modulo the order
pub three_times_is : (s h l : ℕ) → h * 4294967296 + l ≡ s
    → multiple koala_bear (h * 100663290 + l * 3)
    ≡ koala_bear.mul (element 3) (multiple koala_bear s)
three_times_is s h l e =
    multiple_is (h * 100663290 + l * 3)
    ∙ equal 2130706433 koala_bear_numbers (h * 100663290 + l * 3) (3 * s)
    (sym (ap (λ n. n % 2130706433)
    (let o : 3 * s ≡ h * 6 * 2130706433 + (h * 100663290 + l * 3) = omega (arith, e) in o)
    ∙ mul-add-mod_self_right (h * 6) 2130706433 (h * 100663290 + l * 3)))
    ∙ sym (multiple_is (3 * s))
    ∙ multiple-mul koala_bear koala_bear_laws.ring 3 s
    ∙ ap (λ x. koala_bear.mul x (multiple koala_bear s)) three_is

pub coefficient_byte_is : (x : KoalaBear4) (i : ℕ) → i < 16
    → slice_index (number_bytes (slice_index_or (coefficients4 x) (i / 4) koala_bear.zero)) (i % 4)
    ≡ slice_index (coefficient_bytes x) i
coefficient_byte_is x i less =
    sym (piece_entry number_bytes 4 bytes_length (coefficients4 x) (i / 4) (i % 4) koala_bear.zero
    (let o : i / 4 < 4 = omega (arith, less) in o) (let o : i % 4 < 4 = omega arith in o))
    ∙ ap (λ k. get_or (coefficient_bytes x) k 0) (let o : i / 4 * 4 + i % 4 ≡ i = omega arith in o)
