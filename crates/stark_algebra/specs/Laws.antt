-- The statements of the law functions.
use Rattle.std.specs.Prelude.{◌≡◌, ◌≢◌, ◌≤◌, ◌<◌, ◌↔◌, ℕ, ◌+◌, ◌*◌, ◌^◌, List, map}
use Rattle.algebra.specs.Field.{FieldOps, IsField, IsHomomorphism, pow}
use Rattle.algebra.specs.Polynomial.{val, tabulate, sum_below}
use Rattle.algebra.specs.Interpolation.{interpolant}
use Rattle.algebra.specs.TwoAdic.{AreRoots}
use Rattle.algebra.specs.RecombinedQuotients.{ChunksApart, recombined}
use Rattle.stark_algebra.specs.Degrees.{HasDegreeBelow}
use Rattle.stark_algebra.specs.Selectors.{zerofier, IsSelector}

-- `f` is the vanishing polynomial of the `n`-th roots of one times one of degree below `d`
pub record IsMultiple {A : Type 0} (F : FieldOps A) (n d : ℕ) (f : A → A) : Type 0 where
  pub quotient : A → A
  pub degree : HasDegreeBelow F d quotient
  pub product : (x : A) → f x ≡ F.mul (zerofier F n x) (quotient x)

-- a polynomial is zero at each root of one of order `2^k` exactly where it is such a multiple
abbrev pub VanishesExactly : Type 0 → Type 0
VanishesExactly A = (F : FieldOps A) → IsField F → (top : ℕ) (w : ℕ → A) → AreRoots F top w
    → (k : ℕ) → k ≤ top → (d : ℕ) (f : A → A) → HasDegreeBelow F (d + 2 ^ k) f
    → ((i : ℕ) → i < 2 ^ k → f (pow F (w k) i) ≡ F.zero) ↔ IsMultiple F (2 ^ k) d f

-- each point of the subgroup has its selector
abbrev pub SelectorsSelect : Type 0 → Type 0
SelectorsSelect A = (F : FieldOps A) → IsField F → (top : ℕ) (w : ℕ → A) → AreRoots F top w
    → (k : ℕ) → k ≤ top → (i : ℕ)
    → (t : A → A) × IsSelector F (2 ^ k) (pow F (w k) i) t

-- chunks on disjoint cosets, which there have the values of `q`, recombine to it everywhere
abbrev pub ChunksRecombine : Type 0 → Type 0
ChunksRecombine A = (F : FieldOps A) → IsField F → (top : ℕ) (w : ℕ → A) → AreRoots F top w
    → (k : ℕ) → k ≤ top → (n : ℕ) (s : ℕ → A) → ((i : ℕ) → i < n → s i ≢ F.zero)
    → ChunksApart F n k s → (q : A → A) → HasDegreeBelow F (n * 2 ^ k) q
    → (v : ℕ → A → A) → ((i : ℕ) → i < n → HasDegreeBelow F (2 ^ k) (v i))
    → ((i j : ℕ) → i < n → j < 2 ^ k
    → v i (F.mul (s i) (pow F (w k) j)) ≡ q (F.mul (s i) (pow F (w k) j)))
    → (z : A) → recombined F n k s (λ i. v i z) z ≡ q z

-- the coset of `shift` of `2^(k + d)` points is split into `2^d` cosets of `2^k` points, which are
-- apart; point `j` of coset `i` is point `i + j 2^d` of the whole
pub record IsSplit {A : Type 0} (F : FieldOps A) (w : ℕ → A) (shift : A) (k d : ℕ) : Type 0 where
  pub nonzero : (i : ℕ) → F.mul shift (pow F (w (k + d)) i) ≢ F.zero
  pub apart : ChunksApart F (2 ^ d) k (λ i. F.mul shift (pow F (w (k + d)) i))
  pub points : (i j : ℕ) → F.mul (F.mul shift (pow F (w (k + d)) i)) (pow F (w k) j)
      ≡ F.mul shift (pow F (w (k + d)) (i + j * 2 ^ d))

-- a coset of as many points as there are roots of one is split so
abbrev pub CosetsSplit : Type 0 → Type 0
CosetsSplit A = (F : FieldOps A) → IsField F → (top : ℕ) (w : ℕ → A) → AreRoots F top w
    → (shift : A) → shift ≢ F.zero → (k d : ℕ) → k + d ≤ top → IsSplit F w shift k d

-- elements of `E` are sums of `d` elements of the field, times those of a basis
pub record HasBasis {A E : Type 0} (K : FieldOps E) (lift : A → E) (d : ℕ) (basis : ℕ → E)
    (coefficient : E → ℕ → A) : Type 0 where
  pub sum : (x : E) → x ≡ sum_below K d (λ e. K.mul (basis e) (lift (coefficient x e)))

-- the polynomial of column `e` of a chunk: it has, on the coset of `shift` of `2^k` points, the
-- coefficients of `q`'s values there
abbrev pub chunk_column : {A E : Type 0} → FieldOps A → (lift : A → E) → (w : ℕ → A) → (k : ℕ)
    → (coefficient : E → ℕ → A) → (q : E → E) → (shift : A) → (e : ℕ) → List A
chunk_column F lift w k coefficient q shift e =
    interpolant F (tabulate (2 ^ k) (λ j. F.mul shift (pow F (w k) j)))
    (tabulate (2 ^ k) (λ j. coefficient (q (lift (F.mul shift (pow F (w k) j)))) e))

-- the chunks' columns, recombined column by column and put together by the basis, are `q`
abbrev pub ColumnsRecombine : Type 0 → Type 0 → Type 0
ColumnsRecombine A E = (F : FieldOps A) → IsField F → (K : FieldOps E) → IsField K
    → (lift : A → E) → IsHomomorphism F K lift → (top : ℕ) (w : ℕ → A) → AreRoots F top w
    → (k : ℕ) → k ≤ top → (n : ℕ) (s : ℕ → A) → ((i : ℕ) → i < n → s i ≢ F.zero)
    → ChunksApart F n k s
    → (d : ℕ) (basis : ℕ → E) (coefficient : E → ℕ → A) → HasBasis K lift d basis coefficient
    → (q : E → E) → HasDegreeBelow K (n * 2 ^ k) q
    → (z : E) → sum_below K d (λ e. K.mul (basis e) (recombined K n k (λ i. lift (s i))
    (λ i. val K (map lift (chunk_column F lift w k coefficient q (s i) e)) z) z)) ≡ q z
