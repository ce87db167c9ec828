-- Horner's rule, from the last coefficient on.
use Rattle.std.proofs.Common.{◌≡◌, ℕ, ◌+◌, ◌<◌, ◌≤◌, List, length, drop, get_or, ap₂, sym, ◌∙◌}
use Rattle.std.proofs.lemmas.List.{at_drop_more, at_drop_all}
use Rattle.algebra.specs.Field.{FieldOps, IsField}
use Rattle.algebra.specs.Polynomial.{val}
use Rattle.algebra.proofs.Values.{val-nil, val-cons}

module _ {A : Type 0} (F : FieldOps A) (L : IsField F) where
  -- past the last coefficient
  pub horner_none : (cs : List A) (x v : A) (n : ℕ) → length cs ≤ n → v ≡ F.zero
      → v ≡ val F (drop n cs) x
  horner_none cs x v n l e =
      e ∙ sym (val-nil F L.ring x) ∙ sym (at_drop_all (λ (ds : List A). val F ds x) cs n l)

  -- one coefficient more
  pub horner_more : (cs : List A) (x c v w : A) (k : ℕ) → k < length cs → c ≡ get_or cs k c
      → v ≡ val F (drop (k + 1) cs) x → w ≡ F.add c (F.mul x v) → w ≡ val F (drop k cs) x
  horner_more cs x c v w k l is e f =
      f ∙ ap₂ (λ a b. F.add a (F.mul x b)) is e
      ∙ sym (val-cons F L.ring (get_or cs k c) (drop (k + 1) cs) x)
      ∙ sym (at_drop_more (λ (ds : List A). val F ds x) cs k c l)
