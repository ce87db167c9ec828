-- Elements of a prime field, and the numbers of which they are.
use Rattle.std.proofs.Common.{◌≡◌, ◌≢◌, ℕ, zero, suc, ◌<◌, ◌≤◌, ◌%◌, List, [], ◌∷◌, map}
use Rattle.std.proofs.Common.{get_or, All, refl, sym, ap, ap₂, ◌∙◌, arith}
use Rattle.std.proofs.Math.Nat.{mod-eq_of_lt}
use Rattle.std.proofs.lemmas.List.Elements.{All-map}
use Rattle.algebra.specs.Field.{FieldOps, multiple}
use Rattle.fri_numbers.specs.Numbers.{IsCosetBelow}

-- what the trait of prime fields says of numbers
pub record HaveElements {F : Type 0} (base : FieldOps F) (order : ℕ) (canonical : F → ℕ) : Type 0 where
  pub below : (x : F) → canonical x < order
  pub again : (x : F) → multiple base (canonical x) ≡ x
  pub numbers : (n : ℕ) → canonical (multiple base n) ≡ n % order

above_zero : {n m : ℕ} → n < m → 0 < m
above_zero l = omega (arith, l)

module _ {F : Type 0} (base : FieldOps F) (order : ℕ) (canonical : F → ℕ)
    (numbered : HaveElements base order canonical) where
  -- zero's number is zero
  zero_number : canonical base.zero ≡ 0
  unfolding multiple
  zero_number = numbered.numbers 0 ∙ mod-eq_of_lt (above_zero (numbered.below base.zero))

  -- an element of another number isn't zero
  pub not_zero : (x : F) → 0 < canonical x → x ≢ base.zero
  not_zero x some e = let same = ap canonical e ∙ zero_number in omega (arith, some, same)

  -- and has another number where it isn't
  of_number : (x : F) → x ≢ base.zero → (n : ℕ) → n ≡ canonical x → 0 < n
  unfolding multiple
  of_number x nonzero zero e =
      absurd (nonzero (sym (numbered.again x) ∙ ap (λ n. multiple base n) (sym e)))
  of_number x nonzero (suc n) e = omega arith

  -- such a shift, of a size within a bound, is a coset's
  pub is_coset : (most : ℕ) (shift : F) (log_size : ℕ) → shift ≢ base.zero
      → log_size ≤ most → IsCosetBelow order most (canonical shift) log_size
  is_coset most shift log_size nonzero within = record {
    size = within;
    nonzero = of_number shift nonzero (canonical shift) refl;
    element = numbered.below shift;
  }

  -- an element is that of its number
  pub every_element_again : (xs : List F) → map (λ n. multiple base n) (map canonical xs) ≡ xs
  every_element_again [] = refl
  every_element_again (x ∷ xs) =
      ap₂ (λ y ys. y ∷ ys) (numbered.again x) (every_element_again xs)

  pub every_is_element : (xs : List F) → All (λ n. n < order) (map canonical xs)
  every_is_element xs =
      All-map (λ n. n < order) canonical xs (λ i d h. numbered.below (get_or xs i d))
