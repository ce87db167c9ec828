-- BabyBear is a field, a prime one, with roots of unity of the orders up to `2^27`.
use Rattle.std.specs.Prelude.{ℕ, ◌+◌, ◌-◌, ◌*◌, ◌/◌, ◌%◌, ◌^◌, ◌≡◌, ◌≢◌, ◌<◌, ◌≤◌, ◌⊎◌}
use Rattle.std.specs.Prelude.{refl, IsTrue, ◌==◌, ◌↔◌, length}
use Rattle.std.proofs.Common.{lit<, lit≤, sym, ◌∙◌, ap, arith}
use Rattle.algebra.specs.Field.{IsField, multiple, pow}
use Rattle.algebra.specs.TwoAdic.{AreRoots}
use Rattle.algebra.specs.Primes.{IsPrime}
use Rattle.algebra.proofs.Powers.{pow-one}
use Rattle.p3_prime_field.specs.Proth.{IsProth}
use Rattle.p3_prime_field.proofs.Modular.{power_modulo, power_is}
use Rattle.p3_prime_field.proofs.ProthTest.{proth_prime}
use Rattle.p3_prime_field.proofs.ResidueLaws.{residue_field, residue_eq, residue_two, equal}
use Rattle.p3_prime_field.proofs.ResidueLaws.{rest_is}
use Rattle.p3_prime_field.proofs.ResidueLaws.{residues_apart, value_of_multiple, multiple_of_value}
use Rattle.p3_prime_field.proofs.ResidueLaws.{residue_inverse, residue_positive, pow_is}
use Rattle.p3_prime_field.proofs.ResidueLaws.{multiple_is as residue_multiple}
use Rattle.p3_prime_field.proofs.ResidueRoots.{residue_roots, power_root_is, half_power}
use Rattle.p3_prime_field.proofs.ResidueRoots.{no_square as no_residue_square}
use Rattle.p3_prime_field.proofs.ResidueSteps.{half_is as residue_half, four_bytes_injective}
use Rattle.p3_baby_bear.specs.declared.baby_bear.BabyBear.{BabyBear}
use Rattle.p3_baby_bear.specs.BabyBear.{element, baby_bear, baby_bear_numbers, root}
use Rattle.p3_baby_bear.specs.BabyBear.{number_bytes}

-- an element is known by its number
pub same_number : (a b : BabyBear) → a.value ≡ b.value → a ≡ b
same_number = baby_bear_numbers.same

-- the order is `2 * 15 * 2^26 + 1`, and 31 to half of the order less one is -1
pub order_is_proth : IsProth 2013265921 26 15 31
order_is_proth = record {
  order = refl;
  small = lit< tt;
  above = lit< tt;
  half = λ w e. power_is 2013265921 31 w 1006632960 (lit< tt)
      ∙ ap (λ t. power_modulo 2013265921 31 1 t 1006632960 % 2013265921) e;
}

pub order_is_prime : IsPrime 2013265921
order_is_prime = proth_prime 2013265921 26 15 31 order_is_proth

pub baby_bear_laws : IsField baby_bear
unfolding baby_bear
baby_bear_laws = residue_field 2013265921 baby_bear_numbers order_is_prime (lit< tt)

pub eq_same : (a b : BabyBear) → IsTrue (a.value == b.value) ↔ (a ≡ b)
eq_same a b = residue_eq 2013265921 baby_bear_numbers a b

pub zero_is : element 0 ≡ baby_bear.zero
unfolding baby_bear
zero_is = refl

pub one_is : element 1 ≡ baby_bear.one
unfolding baby_bear
one_is = refl

pub two_is : element 2 ≡ baby_bear.add baby_bear.one baby_bear.one
unfolding baby_bear
two_is = residue_two 2013265921 baby_bear_numbers

pub generator_is : element 31 ≢ baby_bear.zero
unfolding baby_bear
generator_is =
    residues_apart 2013265921 baby_bear_numbers 31 0 (lit< tt) (lit< tt) (λ e. omega (arith, e))

-- multiples of one are the elements of their numbers
pub multiple_is : (n : ℕ) → multiple baby_bear n ≡ element n
unfolding baby_bear
multiple_is n = residue_multiple 2013265921 baby_bear_numbers n

pub canonical_multiple : (n : ℕ) → (multiple baby_bear n).value ≡ n % 2013265921
unfolding baby_bear
canonical_multiple n = value_of_multiple 2013265921 baby_bear_numbers n

pub multiple_canonical : (x : BabyBear) → multiple baby_bear x.value ≡ x
unfolding baby_bear
multiple_canonical x = multiple_of_value 2013265921 baby_bear_numbers x

pub generator_power : pow baby_bear (element 31) 15 ≡ element 440564289
unfolding baby_bear
generator_power =
    pow_is 2013265921 baby_bear_numbers 31 15
    ∙ equal 2013265921 baby_bear_numbers (31 ^ 15) 440564289 refl

pub baby_bear_roots : AreRoots baby_bear 27 root
unfolding baby_bear root
baby_bear_roots = residue_roots 2013265921 baby_bear_numbers 26 15 31 order_is_proth

turned : pow baby_bear (element 31) (15 * 2 ^ 26) ≡ baby_bear.neg baby_bear.one
unfolding baby_bear
turned = half_power 2013265921 baby_bear_numbers 26 15 31 order_is_proth

pub root_is : (k : ℕ) → pow baby_bear (element 440564289) (2 ^ (27 - k)) ≡ root k
unfolding root
root_is k =
    ap (λ x. pow baby_bear x (2 ^ (27 - k))) (sym generator_power)
    ∙ power_root_is baby_bear baby_bear_laws.ring (element 31) 15 26 turned (27 - k)

-- the root of order `2^27`
pub root_first : root 27 ≡ element 440564289
root_first = sym (root_is 27) ∙ pow-one baby_bear baby_bear_laws.ring (element 440564289)

-- so is 11
eleven_is_proth : IsProth 2013265921 26 15 11
eleven_is_proth = record {
  order = refl;
  small = lit< tt;
  above = lit< tt;
  half = λ w e. power_is 2013265921 31 w 1006632960 (lit< tt)
      ∙ ap (λ t. power_modulo 2013265921 31 1 t 1006632960 % 2013265921) e;
}

pub eleven_is_no_square : (s : BabyBear) → baby_bear.mul s s ≢ element 11
unfolding baby_bear
eleven_is_no_square =
    no_residue_square 2013265921 baby_bear_numbers 26 15 11 eleven_is_proth (lit< tt) (lit< tt)

pub two_adicity_small : 27 < 64
two_adicity_small = lit< tt

pub bits_at_least : 2 ^ (31 - 1) ≤ 2013265921
bits_at_least = lit≤ tt

pub bits_at_most : 2013265921 < 2 ^ 31
bits_at_most = lit< tt

pub positive : (a : BabyBear) → a ≢ baby_bear.zero → 0 < a.value
unfolding baby_bear
positive = residue_positive 2013265921 baby_bear_numbers

-- the only inverse
pub inverse_is : (x y : BabyBear) → x ≢ baby_bear.zero → x.value * y.value % 2013265921 ≡ 1
    → y ≡ baby_bear.inv x
unfolding baby_bear
inverse_is = residue_inverse 2013265921 baby_bear_numbers order_is_prime (lit< tt)

-- the number may be reduced
pub reduced_is : (n m : ℕ) → m ≡ n % 2013265921 → element m ≡ multiple baby_bear n
reduced_is n m e =
    ap element e ∙ rest_is 2013265921 baby_bear_numbers n ∙ sym (multiple_is n)

pub half_is : (a r : BabyBear) (n : ℕ) → r ≡ element (n / 2) → n % 2 ≡ 0
    → (n ≡ a.value) ⊎ (n ≡ a.value + 2013265921) → baby_bear.add r r ≡ a
unfolding baby_bear
half_is = residue_half 2013265921 baby_bear_numbers

pub bytes_length : (x : BabyBear) → length (number_bytes x) ≡ 4
bytes_length x = refl

-- equal bytes mean equal numbers
pub bytes_injective : (x y : BabyBear) → number_bytes x ≡ number_bytes y → x ≡ y
bytes_injective x y e = same_number x y (four_bytes_injective x.value y.value (fits x) (fits y) e)
  where
    fits : (z : BabyBear) → z.value < 2 ^ 32
    fits z = omega (arith, z.canonical)
