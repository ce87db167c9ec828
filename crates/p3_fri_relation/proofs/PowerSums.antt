-- Sums of a row's values times powers, value by value.
use Rattle.std.proofs.Common.{◌≡◌, ℕ, ◌+◌, ◌<◌, ◌≤◌, List, [], ◌∷◌, ◌++◌, take, length}
use Rattle.std.proofs.Common.{map, get_or, sym, ap, ap₂, ◌∙◌, arith}
use Rattle.std.proofs.lemmas.List.{take_more, get_or-map, length-map}
use Rattle.std.proofs.lemmas.List.{length-take-le}
use Rattle.algebra.specs.Field.{FieldOps, IsRing, pow}
use Rattle.algebra.specs.Polynomial.{val, tabulate, sum_below}
use Rattle.algebra.proofs.Lists.{get_or-tabulate}
use Rattle.algebra.proofs.PolynomialProduct.{sum_below-equal}
use Rattle.algebra.proofs.Powers.{pow-next}
use Rattle.algebra.proofs.Values.{val-append, val-one}
use Rattle.p3_field_core.specs.RowSums.{row_term}

module _ {E : Type 0} (K : FieldOps E) (R : IsRing K) (alpha : E) where
  open K use {add as ◌⊕◌, mul as ◌⊗◌}

  infixl 65 ◌⊕◌
  infixl 70 ◌⊗◌
  -- an entry of the table
  pub power_read : (n : ℕ) (powers : List E) (k : ℕ) (p : E)
      → powers ≡ tabulate n (λ i. pow K alpha i) → k < n → p ≡ get_or powers k p → p ≡ pow K alpha k
  power_read n powers k p e l r =
      r ∙ ap (λ ps. get_or ps k p) e ∙ get_or-tabulate n (λ i. pow K alpha i) k p l

  -- the power after one of the table
  pub power_after : (n k : ℕ) (powers : List E) (p : E)
      → powers ≡ tabulate n (λ i. pow K alpha i) → k < n → p ≡ get_or powers k p
      → p ⊗ alpha ≡ pow K alpha (k + 1)
  power_after n k powers p e l r =
      ap (λ x. x ⊗ alpha) (power_read n powers k p e l r) ∙ R.mul_comm (pow K alpha k) alpha
      ∙ sym (pow-next K alpha k)

  -- one value more
  pub combined_next : (n k : ℕ) (powers values : List E) (p v s : E)
      → powers ≡ tabulate n (λ i. pow K alpha i) → k < n → p ≡ get_or powers k p
      → k < length values → v ≡ get_or values k v
      → s ≡ val K (take k values) alpha
      → s ⊕ p ⊗ v ≡ val K (take (k + 1) values) alpha
  combined_next n k powers values p v s e l r below is so_far =
      ap₂ (λ x y. x ⊕ y ⊗ v) so_far
      (power_read n powers k p e l r ∙ ap (λ m. pow K alpha m)
      (sym (length-take-le k values (omega (arith, below)))))
      ∙ ap (λ y. val K (take k values) alpha ⊕ pow K alpha (length (take k values)) ⊗ y)
      (sym (val-one K R v alpha))
      ∙ sym (val-append K R (take k values) (v ∷ []) alpha)
      ∙ ap (λ y. val K (take k values ++ y ∷ []) alpha) is
      ∙ sym (ap (λ xs. val K xs alpha) (take_more values k v below))

  -- a row of the base field, each value times the power beside it
  pub row_combined : {F : Type 0} (B : FieldOps F) (lift : F → E) (n : ℕ) (powers : List E)
      (row : List F) → powers ≡ tabulate n (λ i. pow K alpha i) → length row ≤ n
      → sum_below K (length row) (row_term B K lift powers row) ≡ val K (map lift row) alpha
  unfolding val
  row_combined B lift n powers row e l =
      sum_below-equal K (length row) (row_term B K lift powers row)
      (λ i. get_or (map lift row) i K.zero ⊗ pow K alpha i)
      (λ i k. R.mul_comm (get_or powers i K.zero) (lift (get_or row i B.zero))
      ∙ ap₂ (λ x y. x ⊗ y) (sym (get_or-map lift row i B.zero K.zero k))
      (ap (λ ps. get_or ps i K.zero) e
      ∙ get_or-tabulate n (λ i. pow K alpha i) i K.zero (omega (arith, k, l))))
      ∙ ap (λ m. sum_below K m (λ i. get_or (map lift row) i K.zero ⊗ pow K alpha i))
      (sym (length-map row lift))
