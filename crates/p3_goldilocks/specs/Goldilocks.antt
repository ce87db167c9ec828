-- The field of 18446744069414584321 elements, as operations on canonical numbers.
use Rattle.std.specs.Prelude.{ℕ, ◌-◌, ◌*◌, ◌%◌, ◌^◌, List, refl}
use Rattle.std.specs.Int.{to_le_bytes, w64}
use Rattle.std.specs.Coded.{le_prop}
use mathlib.Core.HLevel.{is_prop→PathP}
use Rattle.std.proofs.Math.Nat.{mod-lt}
use Rattle.std.proofs.Common.{◌<◌, lit<}
use Rattle.algebra.specs.Field.{FieldOps, pow}
use Rattle.p3_prime_field.specs.Residues.{Residues, modulo}
use Rattle.p3_goldilocks.specs.declared.goldilocks.Goldilocks.{Goldilocks}

-- the element of a number, which counts modulo 18446744069414584321
abbrev pub element : ℕ → Goldilocks
element n = record { value = n % 18446744069414584321; canonical = mod-lt n (lit< tt) }

-- how the elements hold the numbers below 18446744069414584321
abbrev pub goldilocks_numbers : Residues 18446744069414584321 Goldilocks
goldilocks_numbers = record {
  value = λ x. x.value;
  element = element;
  canonical = λ x. x.canonical;
  counts = λ n. refl;
  same = λ x y e i. record {
    value = e i;
    canonical =
        is_prop→PathP (λ j. e j < 18446744069414584321) (λ j. le_prop) x.canonical y.canonical i;
  };
}

-- the operations modulo 18446744069414584321
unfoldable pub goldilocks : FieldOps Goldilocks
goldilocks = modulo 18446744069414584321 goldilocks_numbers

-- the root of unity of order `2^k`: since the order of the group is `(2^32 - 1) * 2^32`, a power
-- of the generator 7
unfoldable pub root : ℕ → Goldilocks
root k = pow goldilocks (element 7) (4294967295 * 2 ^ (32 - k))

-- the canonical number in eight bytes, the lowest first
abbrev pub number_bytes : Goldilocks → List ℕ
number_bytes x = to_le_bytes w64 x.value
