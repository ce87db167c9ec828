-- The definitions on a small case: the column of `2 - X` over the coset of 3 in the field of 17
-- elements, extended by a factor of two.
use Rattle.std.proofs.Common.{◌≡◌, ℕ, ◌+◌, ◌-◌, ◌*◌, ◌%◌, ◌^◌, [], ◌∷◌, refl}
use Rattle.std.specs.Prelude.{slice_index}
use Rattle.algebra.specs.Field.{FieldOps, pow}
use Rattle.algebra.specs.Polynomial.{val, sum_below}
use Rattle.algebra.specs.TwoAdic.{pt}
use Rattle.algebra.specs.Digits.{rev}
use Rattle.p3_fri_relation.specs.Setting.{Fields}
use Rattle.p3_fri_openings.specs.Log2.{halvings}
use Rattle.p3_fri_openings.specs.Committed.{committed_column}

abbrev seventeen : FieldOps ℕ
seventeen = record {
  zero = 0;
  one = 1;
  add = λ a b. (a + b) % 17;
  mul = λ a b. (a * b) % 17;
  neg = λ a. (17 - a) % 17;
  inv = λ a. (a ^ 15) % 17;
}

abbrev small : Fields ℕ ℕ
small = record {
  base = seventeen;
  ext = seventeen;
  lift = λ x. x;
  coefficients = λ x. x ∷ [];
  degree = 1;
  root = λ k. slice_index (1 ∷ 16 ∷ 4 ∷ 2 ∷ 6 ∷ []) k;
  two_adicity = 4;
  shift = 3;
}

pub column_of_two_minus_x : committed_column small 1 (16 ∷ 5 ∷ 7 ∷ 14 ∷ []) ≡ 2 ∷ 16 ∷ []
unfolding halvings pt pow rev val sum_below
column_of_two_minus_x = refl

-- its value at 5 is -3
pub value_at_five : val seventeen (committed_column small 1 (16 ∷ 5 ∷ 7 ∷ 14 ∷ [])) 5 ≡ 14
unfolding halvings pt pow rev val sum_below
value_at_five = refl
