-- Sums of terms, one, two or eight terms more at a time.
use Rattle.std.proofs.Common.{◌≡◌, ℕ, zero, suc, ◌+◌, ◌<◌, List, length, get_or, refl, sym, ap, ap₂, ◌∙◌, arith}
use Rattle.std.proofs.Common.{add-one}
use Rattle.std.proofs.lemmas.List.{get_or_default}
use Rattle.algebra.specs.Field.{FieldOps, IsRing}
use Rattle.algebra.specs.Polynomial.{sum_below}
use Rattle.algebra.proofs.RingLaws.{add_four, zero_add}

module _ {A : Type 0} (F : FieldOps A) (R : IsRing F) where
  pub sum_next : (n : ℕ) (f : ℕ → A) → sum_below F (n + 1) f ≡ F.add (sum_below F n f) (f n)
  unfolding sum_below
  sum_next zero f = R.add_zero (f zero) ∙ sym (zero_add F R (f zero))
  sum_next (suc n) f =
      rw add-one (ap (λ s. F.add (f zero) s) (rw add-one at (sum_next n (λ i. f (suc i))))
      ∙ sym (R.add_assoc (f zero) (sum_below F n (λ i. f (suc i))) (f (suc n))))

  pub sum_none : (f : ℕ → A) → F.zero ≡ sum_below F 0 f
  unfolding sum_below
  sum_none f = refl

  pub one_more : (n : ℕ) (f : ℕ → A) (s t : A) → s ≡ sum_below F n f → t ≡ f n
      → F.add s t ≡ sum_below F (n + 1) f
  one_more n f s t e h = ap₂ F.add e h ∙ sym (sum_next n f)

  pub two_more : (n : ℕ) (f : ℕ → A) (s p : A) → s ≡ sum_below F n f
      → p ≡ F.add (f n) (f (n + 1)) → F.add s p ≡ sum_below F (n + 2) f
  two_more n f s p e h =
      ap₂ F.add e h ∙ sym (R.add_assoc (sum_below F n f) (f n) (f (n + 1)))
      ∙ ap (λ t. F.add t (f (n + 1))) (sym (sum_next n f)) ∙ sym (sum_next (n + 1) f)
      ∙ ap (λ k. sum_below F k f) (let o : n + 1 + 1 ≡ n + 2 = omega arith in o)

  -- eight terms more, by pairs
  pub eight_more : (n : ℕ) (f : ℕ → A) (p q r t : A)
      → p ≡ F.add (f n) (f (n + 1)) → q ≡ F.add (f (n + 2)) (f (n + 3))
      → r ≡ F.add (f (n + 4)) (f (n + 5)) → t ≡ F.add (f (n + 6)) (f (n + 7))
      → F.add (sum_below F n f) (F.add (F.add (F.add p q) r) t) ≡ sum_below F (n + 8) f
  eight_more n f p q r t a b c d =
      add_four F R (sum_below F n f) p q r t
      ∙ two_more (n + 6) f (F.add (F.add (F.add (sum_below F n f) p) q) r) t
      (two_more (n + 4) f (F.add (F.add (sum_below F n f) p) q) r
      (two_more (n + 2) f (F.add (sum_below F n f) p) q (two_more n f (sum_below F n f) p refl a)
      (b ∙ ap (λ k. F.add (f (n + 2)) (f k)) (let o : n + 3 ≡ n + 2 + 1 = omega arith in o))
      ∙ ap (λ k. sum_below F k f) (let o : n + 2 + 2 ≡ n + 4 = omega arith in o))
      (c ∙ ap (λ k. F.add (f (n + 4)) (f k)) (let o : n + 5 ≡ n + 4 + 1 = omega arith in o))
      ∙ ap (λ k. sum_below F k f) (let o : n + 4 + 2 ≡ n + 6 = omega arith in o))
      (d ∙ ap (λ k. F.add (f (n + 6)) (f k)) (let o : n + 7 ≡ n + 6 + 1 = omega arith in o))
      ∙ ap (λ k. sum_below F k f) (let o : n + 6 + 2 ≡ n + 8 = omega arith in o)

-- what was read at an index
pub item : {X : Type 0} (xs : List X) (i : ℕ) (x d : X) → i < length xs → x ≡ get_or xs i x
    → x ≡ get_or xs i d
item xs i x d h e = e ∙ get_or_default xs i x d h
