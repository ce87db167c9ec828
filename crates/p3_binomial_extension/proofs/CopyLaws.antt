-- The field that a type becomes whose values stand for those of a field.
use Rattle.std.proofs.Common.{◌≡◌, sym, ap, ap₂, ◌∙◌}
use Rattle.algebra.specs.Field.{FieldOps, IsRing, IsField}
use Rattle.p3_binomial_extension.specs.Copies.{Copies, carried}

module _ {A E : Type 0} (S : Copies A E) (K : FieldOps A) where
  open S use {original, copy}
  open K use {zero, add, mul, neg, inv}

  -- equal where what they stand for is
  pub equal_copies : (x y : E) → original x ≡ original y → x ≡ y
  equal_copies x y e = sym (S.copy_original x) ∙ ap copy e ∙ S.copy_original y

  carried_ring : IsRing K → IsRing (carried S K)
  carried_ring R = record {
    add_assoc = λ x y z. ap copy
        (ap (λ t. add t (original z)) (S.original_copy (add (original x) (original y)))
        ∙ R.add_assoc (original x) (original y) (original z)
        ∙ ap (λ t. add (original x) t) (sym (S.original_copy (add (original y) (original z)))));
    add_comm = λ x y. ap copy (R.add_comm (original x) (original y));
    add_zero = λ x. ap copy (ap (λ t. add (original x) t) (S.original_copy zero)
        ∙ R.add_zero (original x)) ∙ S.copy_original x;
    add_neg = λ x. ap copy (ap (λ t. add (original x) t) (S.original_copy (neg (original x)))
        ∙ R.add_neg (original x));
    mul_assoc = λ x y z. ap copy
        (ap (λ t. mul t (original z)) (S.original_copy (mul (original x) (original y)))
        ∙ R.mul_assoc (original x) (original y) (original z)
        ∙ ap (λ t. mul (original x) t) (sym (S.original_copy (mul (original y) (original z)))));
    mul_comm = λ x y. ap copy (R.mul_comm (original x) (original y));
    mul_one = λ x. ap copy (ap (λ t. mul (original x) t) (S.original_copy K.one)
        ∙ R.mul_one (original x)) ∙ S.copy_original x;
    mul_add = λ x y z. ap copy
        (ap (λ t. mul (original x) t) (S.original_copy (add (original y) (original z)))
        ∙ R.mul_add (original x) (original y) (original z)
        ∙ sym (ap₂ add (S.original_copy (mul (original x) (original y)))
        (S.original_copy (mul (original x) (original z)))));
  }

  apart : (a b : A) → ¬ (a ≡ b) → ¬ (copy a ≡ copy b)
  apart a b n e = n (sym (S.original_copy a) ∙ ap original e ∙ S.original_copy b)

  pub carried_field : IsField K → IsField (carried S K)
  carried_field L = record {
    ring = carried_ring L.ring;
    one_not_zero = apart K.one zero L.one_not_zero;
    two_not_zero = apart (add (original (copy K.one)) (original (copy K.one))) zero
        (λ e. L.two_not_zero (sym (ap₂ add (S.original_copy K.one) (S.original_copy K.one)) ∙ e));
    mul_inv = λ x n. ap copy (ap (λ t. mul (original x) t) (S.original_copy (inv (original x)))
        ∙ L.mul_inv (original x) (λ e. n (sym (S.copy_original x) ∙ ap copy e)));
    decided = λ x y. elim (L.decided (original x) (original y)) [
      | yes e ↦ yes (equal_copies x y e)
      | no n ↦ no (λ e. n (ap original e))
    ];
  }
