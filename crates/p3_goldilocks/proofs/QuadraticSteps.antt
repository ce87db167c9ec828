-- What the calls of Goldilocks2 keep, in the terms of its field's operations.
use Rattle.std.specs.Prelude.{ℕ, ◌+◌, ◌*◌, ◌/◌, ◌%◌, ◌<◌, ◌≡◌, ◌≢◌, slice_index, slice_index_or}
use Rattle.std.proofs.Common.{sym, ◌∙◌, ap, arith, get_or}
use Rattle.algebra.specs.Field.{multiple}
use Rattle.algebra.proofs.Powers.{homomorphism-multiple}
use Rattle.p3_prime_field.proofs.ResidueLaws.{of_value, product_is, sum_is}
use Rattle.p3_binomial_extension.specs.Quadratic.{quadratic_norm}
use Rattle.p3_binomial_extension.proofs.Pieces.{piece_entry}
use Rattle.p3_binomial_extension.proofs.QuadraticField.{quadratic_norm_not_zero}
use Rattle.p3_goldilocks.specs.declared.goldilocks.Goldilocks.{Goldilocks}
use Rattle.p3_goldilocks.specs.declared.goldilocks2.Goldilocks2.{Goldilocks2}
use Rattle.p3_goldilocks.specs.Goldilocks.{goldilocks, goldilocks_numbers, element, number_bytes}
use Rattle.p3_goldilocks.specs.GoldilocksLaws.{goldilocks_laws, bytes_length, seven_is_no_square}
use Rattle.p3_goldilocks.specs.Goldilocks2.{goldilocks2, quadratic_of, of_quadratic, lift2}
use Rattle.p3_goldilocks.specs.Goldilocks2.{coefficients2, coefficient_bytes}
use Rattle.p3_goldilocks.specs.Goldilocks2Laws.{lift2_homomorphism}

pub multiple2_is : (n : ℕ) → lift2 (multiple goldilocks n) ≡ multiple goldilocks2 n
multiple2_is n = homomorphism-multiple goldilocks goldilocks2 lift2 lift2_homomorphism n

-- what the inverse divides by
pub norm_not_zero : (x : Goldilocks2) → x ≢ goldilocks2.zero
    → quadratic_norm goldilocks (element 7) (quadratic_of x) ≢ goldilocks.zero
unfolding goldilocks2
norm_not_zero x n =
    quadratic_norm_not_zero goldilocks goldilocks_laws (element 7) seven_is_no_square
    (quadratic_of x) (λ e. n (ap of_quadratic e))

-- an element is the one of its number
pub of_number : (x : Goldilocks) → element x.value ≡ x
of_number x = of_value 18446744069414584321 goldilocks_numbers x

pub seven_times_is : (x : Goldilocks) → element (7 * x.value) ≡ goldilocks.mul (element 7) x
unfolding goldilocks
seven_times_is x =
    product_is 18446744069414584321 goldilocks_numbers 7 x.value
    ∙ ap (λ y. goldilocks.mul (element 7) y) (of_number x)

pub product_plus_is : (a b : Goldilocks) (n : ℕ)
    → element (a.value * b.value + n) ≡ goldilocks.add (goldilocks.mul a b) (element n)
unfolding goldilocks
product_plus_is a b n = sum_is 18446744069414584321 goldilocks_numbers (a.value * b.value) n

pub coefficient_byte_is : (x : Goldilocks2) (i : ℕ) → i < 16
    → slice_index (number_bytes (slice_index_or (coefficients2 x) (i / 8) goldilocks.zero)) (i % 8)
    ≡ slice_index (coefficient_bytes x) i
coefficient_byte_is x i less =
    sym (piece_entry number_bytes 8 bytes_length (coefficients2 x) (i / 8) (i % 8) goldilocks.zero
    (let o : i / 8 < 2 = omega (arith, less) in o) (let o : i % 8 < 8 = omega arith in o))
    ∙ ap (λ k. get_or (coefficient_bytes x) k 0) (let o : i / 8 * 8 + i % 8 ≡ i = omega arith in o)
