-- Columns that a batch and a test of folding open together.
use Rattle.std.specs.Prelude.{◌≡◌, ◌≢◌, ℕ, ◌+◌, ◌-◌, ◌*◌, ◌^◌, ◌≤◌, ⊤, List, [], ◌∷◌, length}
use Rattle.std.specs.Prelude.{All, Option, Some, None, Bool, true, if◌then◌else◌}
use Rattle.algebra.specs.Field.{FieldOps, IsField}
use Rattle.algebra.specs.TwoAdic.{AreRoots}
use Rattle.algebra.specs.Rounds.{Round}
use Rattle.fri_soundness.specs.Counting.{AllBut}
use Rattle.fri_soundness.specs.Curves.{IsBad}
use Rattle.fri_soundness.specs.FoldTests.{Step, FoldsTo, Passes, budget, indices}
use Rattle.fri_soundness.specs.CommittedWords.{PassesTest, IsFair, test_steps}
use Rattle.fri_soundness.specs.Batches.{OpenedColumn, batch_rows, batch_word, IsOpenedWhere}

-- whether a log height has a batch, the columns of each, and the challenge that batches them
module _ {A : Type 0} (F : FieldOps A) (w : ℕ → A) (shift : A) (has : ℕ → Bool)
    (columns : ℕ → List (OpenedColumn A)) (alpha : A) where
  -- the batch of a log height, if it has one: the test's input
  abbrev pub batch_inputs : ℕ → Option (List A)
  batch_inputs h = if has h then Some (batch_word F w shift h alpha (columns h)) else None

  -- the batch of log height `h` has room for the degree bound `k` and the budget `e`, and its
  -- challenge isn't bad
  pub record IsFairBatch (h k e : ℕ) : Type 0 where
    pub enough : (length (columns h) + 1) * e + k ≤ 2 ^ h
    pub good : ¬ (IsBad F (batch_rows F w shift h (columns h)) k (length (columns h) - 1) e alpha)

  module _ (log_blowup : ℕ) where
    -- the columns of each step's log height are opened where the step's rows pass
    abbrev pub AreOpenedInSteps : List (Step A) → Type 0
    AreOpenedInSteps [] = ⊤
    AreOpenedInSteps (s ∷ steps) =
        All (IsOpenedWhere F w shift s.height (2 ^ (s.height - log_blowup) + 1)
        (λ row. FoldsTo F w s row × Passes F w steps row)) (columns s.height)
        × AreOpenedInSteps steps

    -- all columns are opened wherever positions pass
    pub record AreOpened (h : ℕ) (rounds : List (Round A)) (words : List (List A)) (c : List A)
        : Type 0 where
      pub greatest : All (IsOpenedWhere F w shift h (2 ^ (h - log_blowup) + 1)
          (PassesTest F w batch_inputs h rounds words c)) (columns h)
      pub later : AreOpenedInSteps (test_steps F w batch_inputs h rounds words c)

-- Where all but `failing` positions pass, and the test and its batches are fair, each column is,
-- wherever positions pass, a polynomial of low degree that has the claimed value.
abbrev pub OpeningsAreSound : Type 0 → Type 0
OpeningsAreSound A = (F : FieldOps A) → IsField F → (top : ℕ) (w : ℕ → A) → AreRoots F top w
    → (shift : A) → shift ≢ F.zero → (has : ℕ → Bool)
    (columns : ℕ → List (OpenedColumn A)) (alpha : A)
    (h : ℕ) (rounds : List (Round A)) (words : List (List A)) (c : List A)
    (log_blowup failing : ℕ) → h ≤ top → ((g : ℕ) → columns g ≢ [] → has g ≡ true)
    → IsFair F w (batch_inputs F w shift has columns alpha) h rounds words c log_blowup failing
    → ((g : ℕ) → g ≤ h → columns g ≢ []
    → IsFairBatch F w shift has columns alpha g (2 ^ (g - log_blowup)) (budget h failing g))
    → AllBut (PassesTest F w (batch_inputs F w shift has columns alpha) h rounds words c)
    failing (indices h)
    → AreOpened F w shift has columns alpha log_blowup h rounds words c
