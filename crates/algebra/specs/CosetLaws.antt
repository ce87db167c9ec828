-- The statements of the law functions on cosets, quotients and batches, for every field over the
-- type `A` and, where points lie in an extension, every field over `E` that it is embedded in.
use Rattle.std.specs.Prelude.{◌≡◌, ◌≢◌, ◌↔◌, ◌≤◌, ◌<◌, ℕ, pred, ◌+◌, ◌^◌, List, length, map, All}
use Rattle.algebra.specs.Field.{FieldOps, IsField, IsHomomorphism, sub, pow}
use Rattle.algebra.specs.Polynomial.{val, tabulate, quotient}
use Rattle.algebra.specs.TwoAdic.{AreRoots}
use Rattle.algebra.specs.Cosets.{coset_pt, IsOnCoset, IsOffCoset, vanishing}
use Rattle.algebra.specs.Words.{coset_word, IsCosetWord}
use Rattle.algebra.specs.Quotients.{quotients, batch, Opened, IsOpenedOff, quotient_word}
use Rattle.algebra.specs.Barycentric.{barycentric}

-- the quotients of the values over a coset by a point `z` off it are the values of the quotient by
-- `X - z`
abbrev pub QuotientsAreValues : Type 0 → Type 0
QuotientsAreValues A = (F : FieldOps A) → IsField F
    → (w : ℕ → A) (shift : A) (k : ℕ) (c : List A) (z : A) → IsOffCoset F (λ x. x) w shift k z
    → tabulate (2 ^ k) (λ i.
    let x = coset_pt F w shift i k in
    F.mul (sub F (val F c z) (val F c x)) (F.inv (sub F z x)))
    ≡ coset_word F w shift k (quotient F c z)

-- the sum of the quotients of columns, by powers of `alpha`, is the quotient of the columns' sums
abbrev pub QuotientsCompress : Type 0 → Type 0
QuotientsCompress A = (F : FieldOps A) → IsField F
    → (z x alpha : A) (ys vs : List A) → length ys ≡ length vs
    → val F (quotients F z x ys vs) alpha
    ≡ F.mul (sub F (val F ys alpha) (val F vs alpha)) (F.inv (sub F z x))

-- a batch of words of one height and of degree below `d` is one
abbrev pub BatchesAreWords : Type 0 → Type 0
BatchesAreWords A = (F : FieldOps A) → IsField F
    → (w : ℕ → A) (shift : A) (k d : ℕ) (alpha : A) (words : List (List A))
    → All (IsCosetWord F w shift k d) words
    → IsCosetWord F w shift k d (batch F (2 ^ k) alpha words)

-- the quotients of opened matrices of one height, in one batch, are a word of a degree one less
abbrev pub OpeningsAreWords : Type 0 → Type 0 → Type 0
OpeningsAreWords A E = (F : FieldOps A) → IsField F → (K : FieldOps E) → IsField K
    → (lift : A → E) → IsHomomorphism F K lift
    → (w : ℕ → A) (shift : A) (k d : ℕ) (alpha : E) (ms : List (Opened A E))
    → All (IsOpenedOff F lift w shift k d) ms
    → IsCosetWord K (λ j. lift (w j)) (lift shift) k (pred d)
    (quotient_word F K lift w shift k alpha ms)

-- the barycentric sum of the first `2^k` values over a coset is the value at each point that isn't
-- on the coset of that size
abbrev pub ValuesFromCosets : Type 0 → Type 0 → Type 0
ValuesFromCosets A E = (F : FieldOps A) → IsField F → (K : FieldOps E) → IsField K
    → (lift : A → E) → IsHomomorphism F K lift → (top : ℕ) (w : ℕ → A) → AreRoots F top w
    → (shift : A) → shift ≢ F.zero → (k m : ℕ) → k + m ≤ top → (c : List A) → length c ≤ 2 ^ k
    → (z : E) → IsOffCoset F lift w shift k z
    → barycentric F K lift w shift k (coset_word F w shift (k + m) c) z ≡ val K (map lift c) z

-- what the `2^k`-th power of `z` tells of the coset of `2^k` points
pub record IsTested {A E : Type 0} (F : FieldOps A) (K : FieldOps E) (lift : A → E)
    (w : ℕ → A) (shift : A) (k : ℕ) (z : E) : Type 0 where
  -- it is the shift's exactly where `z` is one of the points
  pub point : (pow K z (2 ^ k) ≡ lift (pow F shift (2 ^ k))) ↔ IsOnCoset F lift w shift k z
  -- where it isn't, `z` differs from each of them, and from those of the shift's smaller cosets
  pub differences : pow K z (2 ^ k) ≢ lift (pow F shift (2 ^ k)) → (j i : ℕ) → j ≤ k → i < 2 ^ j
      → sub K z (lift (coset_pt F w shift i j)) ≢ K.zero

abbrev pub PointsAreTested : Type 0 → Type 0 → Type 0
PointsAreTested A E = (F : FieldOps A) → IsField F → (K : FieldOps E) → IsField K
    → (lift : A → E) → IsHomomorphism F K lift → (top : ℕ) (w : ℕ → A) → AreRoots F top w
    → (shift : A) → shift ≢ F.zero → (k : ℕ) → k ≤ top → (z : E) → IsTested F K lift w shift k z

-- the vanishing polynomial of a coset is zero exactly there
abbrev pub CosetsVanish : Type 0 → Type 0
CosetsVanish A = (F : FieldOps A) → IsField F → (top : ℕ) (w : ℕ → A) → AreRoots F top w
    → (shift : A) → shift ≢ F.zero → (k : ℕ) → k ≤ top
    → (x : A) → (vanishing F shift k x ≡ F.zero) ↔ IsOnCoset F (λ y. y) w shift k x

-- the cosets of `s` and `t`, of `2^k` points each, have none in common
pub record AreApart {A : Type 0} (F : FieldOps A) (w : ℕ → A) (s t : A) (k : ℕ) : Type 0 where
  pub disjoint : (i : ℕ) → IsOffCoset F (λ x. x) w s k (coset_pt F w t i k)
  -- and the vanishing polynomial of the first is one constant on the second, which isn't zero
  pub constant : (i : ℕ) → vanishing F s k (coset_pt F w t i k) ≡ vanishing F s k t
  pub nonzero : vanishing F s k t ≢ F.zero

-- they are apart where the `2^k`-th power of the quotient of their shifts isn't one
abbrev pub CosetsAreApart : Type 0 → Type 0
CosetsAreApart A = (F : FieldOps A) → IsField F → (top : ℕ) (w : ℕ → A) → AreRoots F top w
    → (s t : A) → s ≢ F.zero → (k : ℕ) → k ≤ top → pow F (F.mul t (F.inv s)) (2 ^ k) ≢ F.one
    → AreApart F w s t k
