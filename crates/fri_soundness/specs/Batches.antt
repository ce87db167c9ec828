-- Columns that are claimed to have values at points, and the batch of their quotients.
use Rattle.std.specs.Prelude.{◌≡◌, ◌≢◌, ℕ, ◌+◌, ◌*◌, ◌^◌, ◌<◌, ◌≤◌, List, length, map}
use Rattle.std.specs.Prelude.{slice_index_or, All, Bool, IsTrue}
use Rattle.algebra.specs.Field.{FieldOps, IsField, sub}
use Rattle.algebra.specs.Polynomial.{val, tabulate}
use Rattle.algebra.specs.TwoAdic.{AreRoots, pt}
use Rattle.fri_soundness.specs.Counting.{AllBut, AtMost}
use Rattle.fri_soundness.specs.Curves.{Row, IsBad}
use Rattle.fri_soundness.specs.FoldTests.{indices, AgreesWhere}

-- a column's values over the coset, with the value that is claimed of it at a point
pub record OpenedColumn (A : Type 0) : Type 0 where
  pub point : A
  pub claim : A
  pub column : List A

-- over the coset by `shift`, of log height `h`
module _ {A : Type 0} (F : FieldOps A) (w : ℕ → A) (shift : A) (h : ℕ) where
  -- the quotient at the coset's point `i`: claim less value, over claimed point less that point
  abbrev pub quotient_at : (i : ℕ) → OpenedColumn A → A
  quotient_at i t = F.mul (sub F t.claim (slice_index_or t.column i F.zero))
      (F.inv (sub F t.point (F.mul shift (pt F w i h))))

  -- row `i` of the curve on which the batches lie: all quotients there
  abbrev pub batch_row : List (OpenedColumn A) → (i : ℕ) → Row A
  batch_row ts i = record { point = pt F w i h; entries = map (quotient_at i) ts }

  -- all rows of that curve
  abbrev pub batch_rows : List (OpenedColumn A) → List (Row A)
  batch_rows ts = tabulate (2 ^ h) (batch_row ts)

  -- the batch by the powers of `alpha`
  abbrev pub batch_word : (alpha : A) → List (OpenedColumn A) → List A
  batch_word alpha ts = tabulate (2 ^ h) (λ i. val F (map (quotient_at i) ts) alpha)

  -- a polynomial of `d` coefficients has the claimed value at the claimed point, and the column's
  -- values at each other point of the coset at whose index `Q` holds
  pub record IsOpenedWhere (d : ℕ) (Q : ℕ → Type 0) (t : OpenedColumn A) : Type 0 where
    pub polynomial : List A
    pub degree : length polynomial ≡ d
    pub claim : val F polynomial t.point ≡ t.claim
    pub values : (i : ℕ) → i < 2 ^ h → Q i → F.mul shift (pt F w i h) ≢ t.point
        → slice_index_or t.column i F.zero ≡ val F polynomial (F.mul shift (pt F w i h))

-- `l + 1` columns over as many points as `l + 2` budgets of `e` and the degree bound `k` take
pub record HasBatchRoom {A : Type 0} (ts : List (OpenedColumn A)) (h k l e : ℕ) : Type 0 where
  pub count : length ts ≡ l + 1
  pub enough : (l + 2) * e + k ≤ 2 ^ h

-- A batch of `l + 1` columns has at most `l * (e + 1)` bad challenges.
abbrev pub FewAreBadForBatches : Type 0 → Type 0
FewAreBadForBatches A = (F : FieldOps A) → IsField F → (top : ℕ) (w : ℕ → A)
    → AreRoots F top w → (shift : A) → shift ≢ F.zero
    → (h k l e : ℕ) (ts : List (OpenedColumn A)) → h ≤ top → HasBatchRoom ts h k l e
    → AtMost (IsBad F (batch_rows F w shift h ts) k l e) (l * (e + 1))

-- Where the batch's challenge isn't bad, and the batch is of low degree at all indices that pass,
-- which are all but `e`, each column is there a polynomial with the claimed value.
abbrev pub BatchesAreSound : Type 0 → Type 0
BatchesAreSound A = (F : FieldOps A) → IsField F → (top : ℕ) (w : ℕ → A) → AreRoots F top w
    → (shift : A) → shift ≢ F.zero → (h k l e : ℕ) (ts : List (OpenedColumn A)) → h ≤ top
    → HasBatchRoom ts h k l e → (alpha : A) (passes : ℕ → Bool)
    → ¬ (IsBad F (batch_rows F w shift h ts) k l e alpha)
    → AllBut (λ i. IsTrue (passes i)) e (indices h)
    → AgreesWhere F w h k (λ i. IsTrue (passes i)) (batch_word F w shift h alpha ts)
    → All (IsOpenedWhere F w shift h (k + 1) (λ i. IsTrue (passes i))) ts
