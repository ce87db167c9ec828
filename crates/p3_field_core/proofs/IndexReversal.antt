-- Laws of lists in bit-reversed order: by entry, twice, and of a list given by a function.
use Rattle.std.proofs.Common.{◌≡◌, ℕ, ◌^◌, ◌<◌, List, [], ◌∷◌, length, get_or, sym, ap, ◌∙◌, arith}
use Rattle.std.proofs.lemmas.List.{same_lists, get_or_default}
use Rattle.algebra.specs.Digits.{rev}
use Rattle.algebra.specs.Polynomial.{tabulate}
use Rattle.algebra.proofs.Digits.{rev-lt, rev-rev}
use Rattle.algebra.proofs.Lists.{length-tabulate, get_or-tabulate}
use Rattle.p3_field_core.specs.Index.{bit_reversed}

module _ {A : Type 0} (k : ℕ) where
  pub length-bit_reversed : (xs : List A) → length xs ≡ 2 ^ k → length (bit_reversed k xs) ≡ 2 ^ k
  unfolding bit_reversed
  length-bit_reversed [] e = e
  length-bit_reversed (x ∷ xs) e = length-tabulate (2 ^ k) (λ i. get_or (x ∷ xs) (rev k i) x)

  pub get_or-bit_reversed : (xs : List A) (i : ℕ) (d : A) → length xs ≡ 2 ^ k → i < 2 ^ k
      → get_or (bit_reversed k xs) i d ≡ get_or xs (rev k i) d
  unfolding bit_reversed
  get_or-bit_reversed [] i d e l = absurd (omega (arith, e, l))
  get_or-bit_reversed (x ∷ xs) i d e l =
      get_or-tabulate (2 ^ k) (λ i. get_or (x ∷ xs) (rev k i) x) i d l
      ∙ get_or_default (x ∷ xs) (rev k i) x d (omega (arith, e, rev-lt k i))

  -- the list with these entries is the one
  pub bit_reversed_by_entries : (xs ys : List A) → length xs ≡ 2 ^ k → length ys ≡ 2 ^ k
      → ((i : ℕ) (d : A) → i < 2 ^ k → get_or ys i d ≡ get_or xs (rev k i) d)
      → ys ≡ bit_reversed k xs
  bit_reversed_by_entries xs ys e f h =
      same_lists ys (bit_reversed k xs) (f ∙ sym (length-bit_reversed xs e))
      (λ i d l. let below : i < 2 ^ k = omega (arith, f, l) in h i d below
      ∙ sym (get_or-bit_reversed xs i d e below))

  pub bit_reversed-bit_reversed : (xs : List A) → length xs ≡ 2 ^ k
      → bit_reversed k (bit_reversed k xs) ≡ xs
  bit_reversed-bit_reversed xs e =
      sym (bit_reversed_by_entries (bit_reversed k xs) xs (length-bit_reversed xs e) e
      (λ i d l. ap (λ j. get_or xs j d) (sym (rev-rev k i l))
      ∙ sym (get_or-bit_reversed xs (rev k i) d e (rev-lt k i))))

  pub bit_reversed-tabulate : (f : ℕ → A)
      → bit_reversed k (tabulate (2 ^ k) f) ≡ tabulate (2 ^ k) (λ i. f (rev k i))
  bit_reversed-tabulate f =
      sym (bit_reversed_by_entries (tabulate (2 ^ k) f) (tabulate (2 ^ k) (λ i. f (rev k i)))
      (length-tabulate (2 ^ k) f) (length-tabulate (2 ^ k) (λ i. f (rev k i)))
      (λ i d l. get_or-tabulate (2 ^ k) (λ j. f (rev k j)) i d l
      ∙ sym (get_or-tabulate (2 ^ k) f (rev k i) d (rev-lt k i))))
