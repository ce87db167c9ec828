-- That these numbers are those of the statements.
use Rattle.std.specs.Prelude.{◌≡◌, ◌≢◌, ℕ, ◌-◌, ◌^◌, ◌≤◌, List, [], map, length, Option}
use Rattle.std.specs.Option.{is_some}
use Rattle.std.specs.List.{AllZip}
use Rattle.algebra.specs.Field.{FieldOps, IsField}
use Rattle.algebra.specs.TwoAdic.{AreRoots}
use Rattle.algebra.specs.Rounds.{Round}
use Rattle.p3_fri_folding.specs.Schedule.{tallest}
use Rattle.fri_soundness.specs.Counting.{AtMost}
use Rattle.fri_soundness.specs.Curves.{IsBad}
use Rattle.fri_soundness.specs.FoldTests.{Step, HasRoom, IsBadIn, budget}
use Rattle.fri_soundness.specs.CommittedWords.{AreWords, test_steps}
use Rattle.fri_soundness.specs.Batches.{OpenedColumn, batch_rows}
use Rattle.fri_soundness_error.specs.declared.errors.RoundError.{RoundError}
use Rattle.fri_soundness_error.specs.Errors.{is_among, HasRoundRoom, HasBatchRoom}
use Rattle.fri_soundness_error.specs.Errors.{round_errors, batch_error}

-- Over any words, with inputs at the given log heights: a round whose numbers have room is a step
-- with room for the budget, and has no more bad challenges than they say.
abbrev pub RoundsAreCounted : Type 0 → Type 0
RoundsAreCounted A = (F : FieldOps A) → IsField F → (top : ℕ) (w : ℕ → A) → AreRoots F top w
    → (heights : List ℕ) (failing log_blowup : ℕ) → tallest heights ≤ top
    → (inputs : ℕ → Option (List A)) → ((h : ℕ) → is_some (inputs h) ≡ is_among heights h)
    → (rounds : List (Round A)) (words : List (List A)) (c : List A)
    → AreWords (tallest heights) rounds words
    → AllZip (λ (r : RoundError) (s : Step A). HasRoundRoom log_blowup r
    → HasRoom F w log_blowup (budget (tallest heights) failing) s
    × AtMost (IsBadIn F w log_blowup (budget (tallest heights) failing) s) r.bad_challenges)
    (round_errors heights failing (map (λ r. r.log_arity) rounds) (tallest heights))
    (test_steps F w inputs (tallest heights) rounds words c)

-- Over any columns of one log height: a batch whose numbers have room has no more bad challenges
-- than they say.
abbrev pub BatchesAreCounted : Type 0 → Type 0
BatchesAreCounted A = (F : FieldOps A) → IsField F → (top : ℕ) (w : ℕ → A) → AreRoots F top w
    → (shift : A) → shift ≢ F.zero → (heights : List ℕ) (failing log_blowup h : ℕ)
    (ts : List (OpenedColumn A)) → h ≤ top → ts ≢ []
    → let b = batch_error heights failing h (length ts) in
    HasBatchRoom log_blowup b
    → AtMost (IsBad F (batch_rows F w shift h ts) (2 ^ (h - log_blowup)) (length ts - 1)
    b.failing_rows) b.bad_challenges
