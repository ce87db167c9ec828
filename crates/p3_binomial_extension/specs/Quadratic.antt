-- The extension of a field by a square root of one of its elements.
use Rattle.std.specs.Prelude.{List, [], ◌∷◌, slice_index_or}
use Rattle.algebra.specs.Field.{FieldOps, sub}

-- `constant + linear * X`
pub record Quadratic (A : Type 0) : Type 0 where
  pub constant : A
  pub linear : A

module _ {A : Type 0} (F : FieldOps A) (w : A) where
  infixl 65 ◌⊕◌
  infixl 70 ◌⊗◌
  open F use {zero as 𝟘, one as 𝟙, add as ◌⊕◌, mul as ◌⊗◌, neg, inv}

  -- the product modulo `X^2 - w`: `X^2` counts as `w`
  abbrev pub quadratic_mul : Quadratic A → Quadratic A → Quadratic A
  quadratic_mul a b = record {
    constant = a.constant ⊗ b.constant ⊕ w ⊗ (a.linear ⊗ b.linear);
    linear = a.constant ⊗ b.linear ⊕ a.linear ⊗ b.constant;
  }

  -- the product with `-X` in the place of `X`
  abbrev pub quadratic_norm : Quadratic A → A
  quadratic_norm a = sub F (a.constant ⊗ a.constant) (w ⊗ (a.linear ⊗ a.linear))

  -- `-X` in the place of `X`, divided by the norm
  abbrev pub quadratic_inv : Quadratic A → Quadratic A
  quadratic_inv a = let i = inv (quadratic_norm a) in record {
    constant = a.constant ⊗ i;
    linear = neg (a.linear ⊗ i);
  }

  -- the operations modulo `X^2 - w`
  abbrev pub quadratic : FieldOps (Quadratic A)
  quadratic = record {
    zero = record { constant = 𝟘; linear = 𝟘 };
    one = record { constant = 𝟙; linear = 𝟘 };
    add = λ a b. record {
      constant = a.constant ⊕ b.constant;
      linear = a.linear ⊕ b.linear;
    };
    mul = quadratic_mul;
    neg = λ a. record { constant = neg a.constant; linear = neg a.linear };
    inv = quadratic_inv;
  }

  -- `X^2 - w`
  abbrev pub quadratic_modulus : List A
  quadratic_modulus = neg w ∷ 𝟘 ∷ 𝟙 ∷ []

-- the coefficients, that of one first
abbrev pub quadratic_coefficients : {A : Type 0} → Quadratic A → List A
quadratic_coefficients a = a.constant ∷ a.linear ∷ []

-- the element with these coefficients, that of one first, where there are two
abbrev pub quadratic_of_list : {A : Type 0} → FieldOps A → List A → Quadratic A
quadratic_of_list F xs = record {
  constant = slice_index_or xs 0 F.zero;
  linear = slice_index_or xs 1 F.zero;
}
