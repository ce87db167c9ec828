-- KoalaBear is a field, a prime one, with roots of unity of the orders up to `2^24`.
use Rattle.std.specs.Prelude.{ℕ, ◌+◌, ◌-◌, ◌*◌, ◌/◌, ◌%◌, ◌^◌, ◌≡◌, ◌≢◌, ◌<◌, ◌≤◌, ◌⊎◌}
use Rattle.std.specs.Prelude.{refl, IsTrue, ◌==◌, ◌↔◌, length}
use Rattle.std.proofs.Common.{lit<, lit≤, sym, ◌∙◌, ap, arith}
use Rattle.algebra.specs.Field.{IsField, multiple, pow}
use Rattle.algebra.specs.TwoAdic.{AreRoots}
use Rattle.algebra.specs.Primes.{IsPrime}
use Rattle.algebra.proofs.Powers.{pow-one}
use Rattle.p3_prime_field.specs.Proth.{IsProth}
use Rattle.p3_prime_field.proofs.Modular.{power_modulo, power_is}
use Rattle.p3_prime_field.proofs.ProthTest.{proth_prime}
use Rattle.p3_prime_field.proofs.ResidueLaws.{residue_field, residue_eq, residue_two, equal}
use Rattle.p3_prime_field.proofs.ResidueLaws.{rest_is}
use Rattle.p3_prime_field.proofs.ResidueLaws.{residues_apart, value_of_multiple, multiple_of_value}
use Rattle.p3_prime_field.proofs.ResidueLaws.{residue_inverse, residue_positive, pow_is}
use Rattle.p3_prime_field.proofs.ResidueLaws.{multiple_is as residue_multiple}
use Rattle.p3_prime_field.proofs.ResidueRoots.{residue_roots, power_root_is, half_power}
use Rattle.p3_prime_field.proofs.ResidueRoots.{no_square as no_residue_square}
use Rattle.p3_prime_field.proofs.ResidueSteps.{half_is as residue_half, four_bytes_injective}
use Rattle.p3_koala_bear.specs.declared.koala_bear.KoalaBear.{KoalaBear}
use Rattle.p3_koala_bear.specs.KoalaBear.{element, koala_bear, koala_bear_numbers, root}
use Rattle.p3_koala_bear.specs.KoalaBear.{number_bytes}

-- an element is known by its number
pub same_number : (a b : KoalaBear) → a.value ≡ b.value → a ≡ b
same_number = koala_bear_numbers.same

-- the order is `2 * 127 * 2^23 + 1`, and 3 to half of the order less one is -1
pub order_is_proth : IsProth 2130706433 23 127 3
order_is_proth = record {
  order = refl;
  small = lit< tt;
  above = lit< tt;
  half = λ w e. power_is 2130706433 31 w 1065353216 (lit< tt)
      ∙ ap (λ t. power_modulo 2130706433 31 1 t 1065353216 % 2130706433) e;
}

pub order_is_prime : IsPrime 2130706433
order_is_prime = proth_prime 2130706433 23 127 3 order_is_proth

pub koala_bear_laws : IsField koala_bear
unfolding koala_bear
koala_bear_laws = residue_field 2130706433 koala_bear_numbers order_is_prime (lit< tt)

pub eq_same : (a b : KoalaBear) → IsTrue (a.value == b.value) ↔ (a ≡ b)
eq_same a b = residue_eq 2130706433 koala_bear_numbers a b

pub zero_is : element 0 ≡ koala_bear.zero
unfolding koala_bear
zero_is = refl

pub one_is : element 1 ≡ koala_bear.one
unfolding koala_bear
one_is = refl

pub two_is : element 2 ≡ koala_bear.add koala_bear.one koala_bear.one
unfolding koala_bear
two_is = residue_two 2130706433 koala_bear_numbers

pub generator_is : element 3 ≢ koala_bear.zero
unfolding koala_bear
generator_is =
    residues_apart 2130706433 koala_bear_numbers 3 0 (lit< tt) (lit< tt) (λ e. omega (arith, e))

-- multiples of one are the elements of their numbers
pub multiple_is : (n : ℕ) → multiple koala_bear n ≡ element n
unfolding koala_bear
multiple_is n = residue_multiple 2130706433 koala_bear_numbers n

pub canonical_multiple : (n : ℕ) → (multiple koala_bear n).value ≡ n % 2130706433
unfolding koala_bear
canonical_multiple n = value_of_multiple 2130706433 koala_bear_numbers n

pub multiple_canonical : (x : KoalaBear) → multiple koala_bear x.value ≡ x
unfolding koala_bear
multiple_canonical x = multiple_of_value 2130706433 koala_bear_numbers x

pub generator_power : pow koala_bear (element 3) 127 ≡ element 1791270792
unfolding koala_bear
generator_power =
    pow_is 2130706433 koala_bear_numbers 3 127
    ∙ equal 2130706433 koala_bear_numbers (3 ^ 127) 1791270792 refl

pub koala_bear_roots : AreRoots koala_bear 24 root
unfolding koala_bear root
koala_bear_roots = residue_roots 2130706433 koala_bear_numbers 23 127 3 order_is_proth

turned : pow koala_bear (element 3) (127 * 2 ^ 23) ≡ koala_bear.neg koala_bear.one
unfolding koala_bear
turned = half_power 2130706433 koala_bear_numbers 23 127 3 order_is_proth

pub root_is : (k : ℕ) → pow koala_bear (element 1791270792) (2 ^ (24 - k)) ≡ root k
unfolding root
root_is k =
    ap (λ x. pow koala_bear x (2 ^ (24 - k))) (sym generator_power)
    ∙ power_root_is koala_bear koala_bear_laws.ring (element 3) 127 23 turned (24 - k)

-- the root of order `2^24`
pub root_first : root 24 ≡ element 1791270792
root_first = sym (root_is 24) ∙ pow-one koala_bear koala_bear_laws.ring (element 1791270792)

pub three_is_no_square : (s : KoalaBear) → koala_bear.mul s s ≢ element 3
unfolding koala_bear
three_is_no_square =
    no_residue_square 2130706433 koala_bear_numbers 23 127 3 order_is_proth (lit< tt) (lit< tt)

pub two_adicity_small : 24 < 64
two_adicity_small = lit< tt

pub bits_at_least : 2 ^ (31 - 1) ≤ 2130706433
bits_at_least = lit≤ tt

pub bits_at_most : 2130706433 < 2 ^ 31
bits_at_most = lit< tt

pub positive : (a : KoalaBear) → a ≢ koala_bear.zero → 0 < a.value
unfolding koala_bear
positive = residue_positive 2130706433 koala_bear_numbers

-- the only inverse
pub inverse_is : (x y : KoalaBear) → x ≢ koala_bear.zero → x.value * y.value % 2130706433 ≡ 1
    → y ≡ koala_bear.inv x
unfolding koala_bear
inverse_is = residue_inverse 2130706433 koala_bear_numbers order_is_prime (lit< tt)

-- the number may be reduced
pub reduced_is : (n m : ℕ) → m ≡ n % 2130706433 → element m ≡ multiple koala_bear n
reduced_is n m e =
    ap element e ∙ rest_is 2130706433 koala_bear_numbers n ∙ sym (multiple_is n)

pub half_is : (a r : KoalaBear) (n : ℕ) → r ≡ element (n / 2) → n % 2 ≡ 0
    → (n ≡ a.value) ⊎ (n ≡ a.value + 2130706433) → koala_bear.add r r ≡ a
unfolding koala_bear
half_is = residue_half 2130706433 koala_bear_numbers

pub bytes_length : (x : KoalaBear) → length (number_bytes x) ≡ 4
bytes_length x = refl

-- equal bytes mean equal numbers
pub bytes_injective : (x y : KoalaBear) → number_bytes x ≡ number_bytes y → x ≡ y
bytes_injective x y e = same_number x y (four_bytes_injective x.value y.value (fits x) (fits y) e)
  where
    fits : (z : KoalaBear) → z.value < 2 ^ 32
    fits z = omega (arith, z.canonical)
