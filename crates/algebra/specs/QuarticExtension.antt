-- The extension of a field by a fourth root of one of its elements.
use Rattle.std.specs.Prelude.{List, [], ◌∷◌}
use Rattle.algebra.specs.Field.{FieldOps, sub}

-- `constant + linear * X + quadratic * X^2 + cubic * X^3`
pub record Quartic (A : Type 0) : Type 0 where
  pub constant : A
  pub linear : A
  pub quadratic : A
  pub cubic : A

-- `-X` in the place of `X`
abbrev pub conjugate : {A : Type 0} → FieldOps A → Quartic A → Quartic A
conjugate F a = record {
  constant = a.constant;
  linear = F.neg a.linear;
  quadratic = a.quadratic;
  cubic = F.neg a.cubic;
}

module _ {A : Type 0} (F : FieldOps A) (w : A) where
  infixl 65 ◌⊕◌
  infixl 70 ◌⊗◌
  open F use {zero as 𝟘, one as 𝟙, add as ◌⊕◌, mul as ◌⊗◌, neg, inv}

  -- the product modulo `X^4 - w`: what passes `X^3` begins at 1 again, `w` times
  abbrev pub quartic_mul : Quartic A → Quartic A → Quartic A
  quartic_mul a b = record {
    constant = a.constant ⊗ b.constant
        ⊕ w ⊗ (a.linear ⊗ b.cubic ⊕ a.quadratic ⊗ b.quadratic ⊕ a.cubic ⊗ b.linear);
    linear = a.constant ⊗ b.linear ⊕ a.linear ⊗ b.constant
        ⊕ w ⊗ (a.quadratic ⊗ b.cubic ⊕ a.cubic ⊗ b.quadratic);
    quadratic = a.constant ⊗ b.quadratic ⊕ a.linear ⊗ b.linear ⊕ a.quadratic ⊗ b.constant
        ⊕ w ⊗ (a.cubic ⊗ b.cubic);
    cubic = a.constant ⊗ b.cubic ⊕ a.linear ⊗ b.quadratic ⊕ a.quadratic ⊗ b.linear
        ⊕ a.cubic ⊗ b.constant;
  }

  -- an element times its conjugate, in which only even powers of `X` are left
  abbrev pub even_norm : Quartic A → Quartic A
  even_norm a = quartic_mul a (conjugate F a)

  -- `(n + m * X^2) * (n - m * X^2)`, for an even element `n + m * X^2`
  abbrev pub base_norm : Quartic A → A
  base_norm e = sub F (e.constant ⊗ e.constant) (w ⊗ (e.quadratic ⊗ e.quadratic))

  -- the conjugate, times what makes the even norm one
  abbrev pub quartic_inv : Quartic A → Quartic A
  quartic_inv a =
      let e = even_norm a in
      let i = inv (base_norm e) in
      quartic_mul (conjugate F a) (record {
        constant = e.constant ⊗ i;
        linear = 𝟘;
        quadratic = neg (e.quadratic ⊗ i);
        cubic = 𝟘;
      })

  -- the operations modulo `X^4 - w`
  abbrev pub quartic : FieldOps (Quartic A)
  quartic = record {
    zero = record { constant = 𝟘; linear = 𝟘; quadratic = 𝟘; cubic = 𝟘 };
    one = record { constant = 𝟙; linear = 𝟘; quadratic = 𝟘; cubic = 𝟘 };
    add = λ a b. record {
      constant = a.constant ⊕ b.constant;
      linear = a.linear ⊕ b.linear;
      quadratic = a.quadratic ⊕ b.quadratic;
      cubic = a.cubic ⊕ b.cubic;
    };
    mul = quartic_mul;
    neg = λ a. record {
      constant = neg a.constant;
      linear = neg a.linear;
      quadratic = neg a.quadratic;
      cubic = neg a.cubic;
    };
    inv = quartic_inv;
  }

  -- `X^4 - w`
  abbrev pub quartic_modulus : List A
  quartic_modulus = neg w ∷ 𝟘 ∷ 𝟘 ∷ 𝟘 ∷ 𝟙 ∷ []

-- the coefficients, that of one first
abbrev pub quartic_coefficients : {A : Type 0} → Quartic A → List A
quartic_coefficients a = a.constant ∷ a.linear ∷ a.quadratic ∷ a.cubic ∷ []
