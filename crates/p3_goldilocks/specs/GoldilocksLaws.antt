-- Goldilocks is a field, a prime one, with roots of unity of the orders up to `2^32`.
use Rattle.std.specs.Prelude.{ℕ, ◌+◌, ◌-◌, ◌*◌, ◌/◌, ◌%◌, ◌^◌, ◌≡◌, ◌≢◌, ◌<◌, ◌≤◌, ◌⊎◌}
use Rattle.std.specs.Prelude.{refl, IsTrue, ◌==◌, ◌↔◌, length}
use Rattle.std.proofs.Common.{lit<, lit≤, sym, ◌∙◌, ap, arith}
use Rattle.algebra.specs.Field.{IsField, multiple, pow}
use Rattle.algebra.specs.TwoAdic.{AreRoots}
use Rattle.algebra.specs.Primes.{IsPrime}
use Rattle.algebra.proofs.Powers.{pow-one}
use Rattle.p3_prime_field.specs.Proth.{IsProth}
use Rattle.p3_prime_field.proofs.Modular.{power_modulo, power_is}
use Rattle.p3_prime_field.proofs.ProthTest.{proth_prime}
use Rattle.p3_prime_field.proofs.ResidueLaws.{residue_field, residue_eq, residue_two, rest_is}
use Rattle.p3_prime_field.proofs.ResidueLaws.{residues_apart, value_of_multiple, multiple_of_value}
use Rattle.p3_prime_field.proofs.ResidueLaws.{residue_inverse, residue_positive, known_power}
use Rattle.p3_prime_field.proofs.ResidueLaws.{multiple_is as residue_multiple}
use Rattle.p3_prime_field.proofs.ResidueRoots.{residue_roots, power_root_is, half_power}
use Rattle.p3_prime_field.proofs.ResidueRoots.{no_square as no_residue_square}
use Rattle.p3_prime_field.proofs.ResidueSteps.{half_is as residue_half, eight_bytes_injective}
use Rattle.p3_goldilocks.specs.declared.goldilocks.Goldilocks.{Goldilocks}
use Rattle.p3_goldilocks.specs.Goldilocks.{element, goldilocks, goldilocks_numbers, root}
use Rattle.p3_goldilocks.specs.Goldilocks.{number_bytes}

-- an element is known by its number
pub same_number : (a b : Goldilocks) → a.value ≡ b.value → a ≡ b
same_number = goldilocks_numbers.same

-- the order is `2 * (2^32 - 1) * 2^31 + 1`, and 7 to half of the order less one is -1
pub order_is_proth : IsProth 18446744069414584321 31 4294967295 7
order_is_proth = record {
  order = refl;
  small = lit< tt;
  above = lit< tt;
  half = λ w e. power_is 18446744069414584321 63 w 9223372034707292160 (lit< tt)
      ∙ ap (λ t. power_modulo 18446744069414584321 63 1 t 9223372034707292160
      % 18446744069414584321) e;
}

pub order_is_prime : IsPrime 18446744069414584321
order_is_prime = proth_prime 18446744069414584321 31 4294967295 7 order_is_proth

pub goldilocks_laws : IsField goldilocks
unfolding goldilocks
goldilocks_laws = residue_field 18446744069414584321 goldilocks_numbers order_is_prime (lit< tt)

pub eq_same : (a b : Goldilocks) → IsTrue (a.value == b.value) ↔ (a ≡ b)
eq_same a b = residue_eq 18446744069414584321 goldilocks_numbers a b

pub zero_is : element 0 ≡ goldilocks.zero
unfolding goldilocks
zero_is = refl

pub one_is : element 1 ≡ goldilocks.one
unfolding goldilocks
one_is = refl

pub two_is : element 2 ≡ goldilocks.add goldilocks.one goldilocks.one
unfolding goldilocks
two_is = residue_two 18446744069414584321 goldilocks_numbers

-- an element whose number isn't a multiple of the order isn't zero
pub not_zero : (n : ℕ) → 0 < n → n < 18446744069414584321 → element n ≢ goldilocks.zero
unfolding goldilocks
not_zero n pos less =
    residues_apart 18446744069414584321 goldilocks_numbers n 0 less (lit< tt)
    (λ e. omega (arith, e, pos))

pub generator_is : element 7 ≢ goldilocks.zero
generator_is = not_zero 7 (lit< tt) (lit< tt)

-- multiples of one are the elements of their numbers
pub multiple_is : (n : ℕ) → multiple goldilocks n ≡ element n
unfolding goldilocks
multiple_is n = residue_multiple 18446744069414584321 goldilocks_numbers n

pub canonical_multiple : (n : ℕ) → (multiple goldilocks n).value ≡ n % 18446744069414584321
unfolding goldilocks
canonical_multiple n = value_of_multiple 18446744069414584321 goldilocks_numbers n

pub multiple_canonical : (x : Goldilocks) → multiple goldilocks x.value ≡ x
unfolding goldilocks
multiple_canonical x = multiple_of_value 18446744069414584321 goldilocks_numbers x

pub generator_power : pow goldilocks (element 7) 4294967295 ≡ element 1753635133440165772
unfolding goldilocks
generator_power =
    known_power 18446744069414584321 goldilocks_numbers 7 4294967295 1753635133440165772
    (λ w e. power_is 18446744069414584321 32 w 4294967295 (lit< tt)
    ∙ ap (λ t. power_modulo 18446744069414584321 32 1 t 4294967295 % 18446744069414584321) e)

pub goldilocks_roots : AreRoots goldilocks 32 root
unfolding goldilocks root
goldilocks_roots =
    residue_roots 18446744069414584321 goldilocks_numbers 31 4294967295 7 order_is_proth

turned : pow goldilocks (element 7) (4294967295 * 2 ^ 31) ≡ goldilocks.neg goldilocks.one
unfolding goldilocks
turned = half_power 18446744069414584321 goldilocks_numbers 31 4294967295 7 order_is_proth

pub root_is : (k : ℕ) → pow goldilocks (element 1753635133440165772) (2 ^ (32 - k)) ≡ root k
unfolding root
root_is k =
    ap (λ x. pow goldilocks x (2 ^ (32 - k))) (sym generator_power)
    ∙ power_root_is goldilocks goldilocks_laws.ring (element 7) 4294967295 31 turned (32 - k)

-- the root of order `2^32`
pub root_first : root 32 ≡ element 1753635133440165772
root_first =
    sym (root_is 32) ∙ pow-one goldilocks goldilocks_laws.ring (element 1753635133440165772)

pub seven_is_no_square : (s : Goldilocks) → goldilocks.mul s s ≢ element 7
unfolding goldilocks
seven_is_no_square =
    no_residue_square 18446744069414584321 goldilocks_numbers 31 4294967295 7 order_is_proth
    (lit< tt) (lit< tt)

pub two_adicity_small : 32 < 64
two_adicity_small = lit< tt

pub bits_at_least : 2 ^ (64 - 1) ≤ 18446744069414584321
bits_at_least = lit≤ tt

pub bits_at_most : 18446744069414584321 < 2 ^ 64
bits_at_most = lit< tt

pub positive : (a : Goldilocks) → a ≢ goldilocks.zero → 0 < a.value
unfolding goldilocks
positive = residue_positive 18446744069414584321 goldilocks_numbers

-- the only inverse
pub inverse_is : (x y : Goldilocks) → x ≢ goldilocks.zero
    → x.value * y.value % 18446744069414584321 ≡ 1 → y ≡ goldilocks.inv x
unfolding goldilocks
inverse_is = residue_inverse 18446744069414584321 goldilocks_numbers order_is_prime (lit< tt)

-- the number may be reduced
pub reduced_is : (n m : ℕ) → m ≡ n % 18446744069414584321 → element m ≡ multiple goldilocks n
reduced_is n m e =
    ap element e ∙ rest_is 18446744069414584321 goldilocks_numbers n ∙ sym (multiple_is n)

pub half_is : (a r : Goldilocks) (n : ℕ) → r ≡ element (n / 2) → n % 2 ≡ 0
    → (n ≡ a.value) ⊎ (n ≡ a.value + 18446744069414584321) → goldilocks.add r r ≡ a
unfolding goldilocks
half_is = residue_half 18446744069414584321 goldilocks_numbers

pub bytes_length : (x : Goldilocks) → length (number_bytes x) ≡ 8
bytes_length x = refl

-- equal bytes mean equal numbers
pub bytes_injective : (x y : Goldilocks) → number_bytes x ≡ number_bytes y → x ≡ y
bytes_injective x y e = same_number x y (eight_bytes_injective x.value y.value (fits x) (fits y) e)
  where
    fits : (z : Goldilocks) → z.value < 2 ^ 64
    fits z = omega (arith, z.canonical)
