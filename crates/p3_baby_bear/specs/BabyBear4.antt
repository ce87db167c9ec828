-- The extension of BabyBear by a root of `X^4 - 11`.
use Rattle.std.specs.Prelude.{ℕ, List, slice_index_or, refl}
use Rattle.std.specs.List.{flat_map}
use Rattle.algebra.specs.Field.{FieldOps}
use Rattle.algebra.specs.QuarticExtension.{Quartic, quartic, quartic_coefficients, quartic_modulus}
use Rattle.p3_binomial_extension.specs.Copies.{Copies}
use Rattle.p3_baby_bear.specs.declared.baby_bear.BabyBear.{BabyBear}
use Rattle.p3_baby_bear.specs.declared.baby_bear4.BabyBear4.{BabyBear4}
use Rattle.p3_baby_bear.specs.BabyBear.{baby_bear, element, number_bytes}

-- an element as one of the quartic extension of a field, and back
abbrev pub quartic_of : BabyBear4 → Quartic BabyBear
quartic_of x =
    record { constant = x.constant; linear = x.linear; quadratic = x.quadratic; cubic = x.cubic }

abbrev pub of_quartic : Quartic BabyBear → BabyBear4
of_quartic x =
    record { constant = x.constant; linear = x.linear; quadratic = x.quadratic; cubic = x.cubic }

abbrev pub baby_bear4_copies : Copies (Quartic BabyBear) BabyBear4
baby_bear4_copies = record {
  original = quartic_of;
  copy = of_quartic;
  copy_original = λ x. refl;
  original_copy = λ a. refl;
}

-- the operations modulo `X^4 - 11`
unfoldable pub baby_bear4 : FieldOps BabyBear4
baby_bear4 = let K = quartic baby_bear (element 11) in record {
  zero = of_quartic K.zero;
  one = of_quartic K.one;
  add = λ a b. of_quartic (K.add (quartic_of a) (quartic_of b));
  mul = λ a b. of_quartic (K.mul (quartic_of a) (quartic_of b));
  neg = λ a. of_quartic (K.neg (quartic_of a));
  inv = λ a. of_quartic (K.inv (quartic_of a));
}

-- the coefficients, that of one first
abbrev pub coefficients4 : BabyBear4 → List BabyBear
coefficients4 x = quartic_coefficients (quartic_of x)

-- the element with these coefficients, that of one first, where there are four
abbrev pub of_coefficients4 : List BabyBear → BabyBear4
of_coefficients4 xs = record {
  constant = slice_index_or xs 0 (element 0);
  linear = slice_index_or xs 1 (element 0);
  quadratic = slice_index_or xs 2 (element 0);
  cubic = slice_index_or xs 3 (element 0);
}

-- an element of BabyBear, as a constant polynomial
abbrev pub lift4 : BabyBear → BabyBear4
lift4 x = record { constant = x; linear = element 0; quadratic = element 0; cubic = element 0 }

-- `8 + X`
abbrev pub generator4 : BabyBear4
generator4 =
    record { constant = element 8; linear = element 1; quadratic = element 0; cubic = element 0 }

-- `X^4 - 11`
abbrev pub modulus4 : List BabyBear
modulus4 = quartic_modulus baby_bear (element 11)

-- the bytes of the coefficients one after another, from the constant one
abbrev pub coefficient_bytes : BabyBear4 → List ℕ
coefficient_bytes x = flat_map number_bytes (coefficients4 x)
