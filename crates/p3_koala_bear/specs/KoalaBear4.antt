-- The extension of KoalaBear by a root of `X^4 - 3`.
use Rattle.std.specs.Prelude.{ℕ, List, refl}
use Rattle.std.specs.List.{flat_map}
use Rattle.algebra.specs.Field.{FieldOps}
use Rattle.algebra.specs.QuarticExtension.{Quartic, quartic, quartic_coefficients, quartic_modulus}
use Rattle.p3_binomial_extension.specs.Copies.{Copies, carried}
use Rattle.p3_binomial_extension.specs.QuarticLists.{quartic_of_list}
use Rattle.p3_koala_bear.specs.declared.koala_bear.KoalaBear.{KoalaBear}
use Rattle.p3_koala_bear.specs.declared.koala_bear4.KoalaBear4.{KoalaBear4}
use Rattle.p3_koala_bear.specs.KoalaBear.{koala_bear, element, number_bytes}

-- an element as one of the quartic extension of a field, and back
abbrev pub quartic_of : KoalaBear4 → Quartic KoalaBear
quartic_of x =
    record { constant = x.constant; linear = x.linear; quadratic = x.quadratic; cubic = x.cubic }

abbrev pub of_quartic : Quartic KoalaBear → KoalaBear4
of_quartic x =
    record { constant = x.constant; linear = x.linear; quadratic = x.quadratic; cubic = x.cubic }

abbrev pub koala_bear4_copies : Copies (Quartic KoalaBear) KoalaBear4
koala_bear4_copies = record {
  original = quartic_of;
  copy = of_quartic;
  copy_original = λ x. refl;
  original_copy = λ a. refl;
}

-- the operations modulo `X^4 - 3`
unfoldable pub koala_bear4 : FieldOps KoalaBear4
koala_bear4 = carried koala_bear4_copies (quartic koala_bear (element 3))

-- the coefficients, that of one first
abbrev pub coefficients4 : KoalaBear4 → List KoalaBear
coefficients4 x = quartic_coefficients (quartic_of x)

-- the element with these coefficients, that of one first, where there are four
abbrev pub of_coefficients4 : List KoalaBear → KoalaBear4
of_coefficients4 xs = of_quartic (quartic_of_list koala_bear xs)

-- an element of KoalaBear, as a constant polynomial
abbrev pub lift4 : KoalaBear → KoalaBear4
lift4 x = record { constant = x; linear = element 0; quadratic = element 0; cubic = element 0 }

-- `2 + X`
abbrev pub generator4 : KoalaBear4
generator4 =
    record { constant = element 2; linear = element 1; quadratic = element 0; cubic = element 0 }

-- `X^4 - 3`
abbrev pub modulus4 : List KoalaBear
modulus4 = quartic_modulus koala_bear (element 3)

-- the bytes of the coefficients one after another, from the constant one
abbrev pub coefficient_bytes : KoalaBear4 → List ℕ
coefficient_bytes x = flat_map number_bytes (coefficients4 x)
