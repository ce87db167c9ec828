-- The field of 2130706433 elements, as operations on canonical numbers.
use Rattle.std.specs.Prelude.{ℕ, ◌-◌, ◌*◌, ◌%◌, ◌^◌, List, refl}
use Rattle.std.specs.Int.{to_le_bytes, w32}
use Rattle.std.specs.Coded.{le_prop}
use mathlib.Core.HLevel.{is_prop→PathP}
use Rattle.std.proofs.Math.Nat.{mod-lt}
use Rattle.std.proofs.Common.{◌<◌, lit<}
use Rattle.algebra.specs.Field.{FieldOps, pow}
use Rattle.p3_prime_field.specs.Residues.{Residues, modulo}
use Rattle.p3_koala_bear.specs.declared.koala_bear.KoalaBear.{KoalaBear}

-- the element of a number, which counts modulo 2130706433
abbrev pub element : ℕ → KoalaBear
element n = record { value = n % 2130706433; canonical = mod-lt n (lit< tt) }

-- how the elements hold the numbers below 2130706433
abbrev pub koala_bear_numbers : Residues 2130706433 KoalaBear
koala_bear_numbers = record {
  value = λ x. x.value;
  element = element;
  canonical = λ x. x.canonical;
  counts = λ n. refl;
  same = λ x y e i. record {
    value = e i;
    canonical =
        is_prop→PathP (λ j. e j < 2130706433) (λ j. le_prop) x.canonical y.canonical i;
  };
}

-- the operations modulo 2130706433
unfoldable pub koala_bear : FieldOps KoalaBear
koala_bear = modulo 2130706433 koala_bear_numbers

-- the root of unity of order `2^k`: since the order of the group is `127 * 2^24`, a power of the
-- generator 3
unfoldable pub root : ℕ → KoalaBear
root k = pow koala_bear (element 3) (127 * 2 ^ (24 - k))

-- the canonical number in four bytes, the lowest first
abbrev pub number_bytes : KoalaBear → List ℕ
number_bytes x = to_le_bytes w32 x.value
