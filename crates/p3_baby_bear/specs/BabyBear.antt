-- The field of 2013265921 elements, as operations on canonical numbers.
use Rattle.std.specs.Prelude.{ℕ, ◌+◌, ◌-◌, ◌*◌, ◌%◌, ◌^◌, ◌<◌, List, refl}
use Rattle.std.specs.Coded.{le_prop}
use Rattle.std.specs.Int.{to_le_bytes, w32}
use mathlib.Core.HLevel.{is_prop→PathP}
use Rattle.std.proofs.Math.Nat.{mod-lt}
use Rattle.std.proofs.Common.{lit<}
use Rattle.p3_baby_bear.specs.declared.baby_bear.BabyBear.{BabyBear}
use Rattle.algebra.specs.Field.{FieldOps, pow}
use Rattle.algebra.specs.Primes.{inverse_modulo}
use Rattle.p3_prime_field.specs.Residues.{Residues}

-- the element of a number, which counts modulo 2013265921
abbrev pub element : ℕ → BabyBear
element n = record { value = n % 2013265921; canonical = mod-lt n (lit< tt) }

-- how the elements hold the numbers below 2013265921
abbrev pub baby_bear_numbers : Residues 2013265921 BabyBear
baby_bear_numbers = record {
  value = λ x. x.value;
  element = element;
  canonical = λ x. x.canonical;
  counts = λ n. refl;
  same = λ x y e i. record {
    value = e i;
    canonical =
        is_prop→PathP (λ j. e j < 2013265921) (λ j. le_prop) x.canonical y.canonical i;
  };
}

-- the operations modulo 2013265921
unfoldable pub baby_bear : FieldOps BabyBear
baby_bear = record {
  zero = element 0;
  one = element 1;
  add = λ a b. element (a.value + b.value);
  mul = λ a b. element (a.value * b.value);
  neg = λ a. element (2013265921 - a.value);
  inv = λ a. element (inverse_modulo 2013265921 a.value a.value);
}

-- the root of unity of order `2^k`: since the order of the group is `15 * 2^27`, a power of the
-- generator 31
unfoldable pub root : ℕ → BabyBear
root k = pow baby_bear (element 31) (15 * 2 ^ (27 - k))

-- the canonical number in four bytes, the lowest first
abbrev pub number_bytes : BabyBear → List ℕ
number_bytes x = to_le_bytes w32 x.value
