-- Words: the values of a polynomial over a two-adic domain or a coset of one, in bit-reversed
-- order.
use Rattle.std.specs.Prelude.{◌≡◌, ℕ, ◌^◌, List, length}
use Rattle.algebra.specs.Field.{FieldOps}
use Rattle.algebra.specs.Polynomial.{val, tabulate}
use Rattle.algebra.specs.TwoAdic.{pt}

module _ {A : Type 0} (F : FieldOps A) (w : ℕ → A) where
  -- the word of log height `k` of the polynomial `c`: its values at the points of the domain
  abbrev pub word : (k : ℕ) (c : List A) → List A
  word k c = tabulate (2 ^ k) (λ i. val F c (pt F w i k))

  -- the same on the coset of `shift`
  abbrev pub coset_word : (shift : A) (k : ℕ) (c : List A) → List A
  coset_word shift k c = tabulate (2 ^ k) (λ i. val F c (F.mul shift (pt F w i k)))

  -- `ys` is the word of one polynomial of degree below `d`
  pub record IsWord (k d : ℕ) (ys : List A) : Type 0 where
    pub polynomial : List A
    pub degree : length polynomial ≡ d
    pub values : ys ≡ word k polynomial

  -- the same on the coset of `shift`
  pub record IsCosetWord (shift : A) (k d : ℕ) (ys : List A) : Type 0 where
    pub polynomial : List A
    pub degree : length polynomial ≡ d
    pub values : ys ≡ coset_word shift k polynomial
