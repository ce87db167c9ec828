-- A type whose values stand for those of another one, and the field that it becomes by that.
use Rattle.std.specs.Prelude.{◌≡◌}
use Rattle.algebra.specs.Field.{FieldOps}

-- each value of `E` stands for one of `A`, and back
pub record Copies (A E : Type 0) : Type 0 where
  pub original : E → A
  pub copy : A → E
  pub copy_original : (x : E) → copy (original x) ≡ x
  pub original_copy : (a : A) → original (copy a) ≡ a

-- the operations on what the values stand for
abbrev pub carried : {A E : Type 0} → Copies A E → FieldOps A → FieldOps E
carried S K = record {
  zero = S.copy K.zero;
  one = S.copy K.one;
  add = λ x y. S.copy (K.add (S.original x) (S.original y));
  mul = λ x y. S.copy (K.mul (S.original x) (S.original y));
  neg = λ x. S.copy (K.neg (S.original x));
  inv = λ x. S.copy (K.inv (S.original x));
}
