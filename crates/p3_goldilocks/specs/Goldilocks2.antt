-- The extension of Goldilocks by a root of `X^2 - 7`.
use Rattle.std.specs.Prelude.{ℕ, List, refl}
use Rattle.std.specs.List.{flat_map}
use Rattle.algebra.specs.Field.{FieldOps}
use Rattle.p3_binomial_extension.specs.Copies.{Copies, carried}
use Rattle.p3_binomial_extension.specs.Quadratic.{Quadratic, quadratic, quadratic_coefficients}
use Rattle.p3_binomial_extension.specs.Quadratic.{quadratic_modulus, quadratic_of_list}
use Rattle.p3_goldilocks.specs.declared.goldilocks.Goldilocks.{Goldilocks}
use Rattle.p3_goldilocks.specs.declared.goldilocks2.Goldilocks2.{Goldilocks2}
use Rattle.p3_goldilocks.specs.Goldilocks.{goldilocks, element, number_bytes}

-- an element as one of the quadratic extension of a field, and back
abbrev pub quadratic_of : Goldilocks2 → Quadratic Goldilocks
quadratic_of x =
    record { constant = x.constant; linear = x.linear }

abbrev pub of_quadratic : Quadratic Goldilocks → Goldilocks2
of_quadratic x =
    record { constant = x.constant; linear = x.linear }

abbrev pub goldilocks2_copies : Copies (Quadratic Goldilocks) Goldilocks2
goldilocks2_copies = record {
  original = quadratic_of;
  copy = of_quadratic;
  copy_original = λ x. refl;
  original_copy = λ a. refl;
}

-- the operations modulo `X^2 - 7`
unfoldable pub goldilocks2 : FieldOps Goldilocks2
goldilocks2 = carried goldilocks2_copies (quadratic goldilocks (element 7))

-- the coefficients, that of one first
abbrev pub coefficients2 : Goldilocks2 → List Goldilocks
coefficients2 x = quadratic_coefficients (quadratic_of x)

-- the element with these coefficients, that of one first, where there are two
abbrev pub of_coefficients2 : List Goldilocks → Goldilocks2
of_coefficients2 xs = of_quadratic (quadratic_of_list goldilocks xs)

-- an element of Goldilocks, as a constant polynomial
abbrev pub lift2 : Goldilocks → Goldilocks2
lift2 x = record { constant = x; linear = element 0 }

-- an element that generates the multiplicative group
abbrev pub generator2 : Goldilocks2
generator2 = record {
  constant = element 18081566051660590251;
  linear = element 16121475356294670766;
}

-- `X^2 - 7`
abbrev pub modulus2 : List Goldilocks
modulus2 = quadratic_modulus goldilocks (element 7)

-- the bytes of the coefficients one after another, from the constant one
abbrev pub coefficient_bytes : Goldilocks2 → List ℕ
coefficient_bytes x = flat_map number_bytes (coefficients2 x)
