-- The numbers of bad challenges, round by round and batch by batch.
use Rattle.std.specs.Prelude.{ℕ, ◌+◌, ◌-◌, ◌*◌, ◌^◌, ◌≤◌, ◌==◌, List, [], ◌∷◌, Bool}
use Rattle.std.specs.Prelude.{if◌then◌else◌}
use Rattle.std.specs.List.{list_any}
use Rattle.p3_fri_folding.specs.Schedule.{tallest}
use Rattle.fri_soundness.specs.FoldTests.{budget}
use Rattle.fri_soundness_error.specs.declared.errors.RoundError.{RoundError}
use Rattle.fri_soundness_error.specs.declared.errors.BatchError.{BatchError}

-- the degree of the curve of a round of log arity `a`, by whether it rolls in an input
abbrev pub degree_of : (has_input : Bool) (a : ℕ) → ℕ
degree_of has_input a = if has_input then 2 ^ a else 2 ^ a - 1

-- whether the log height `h` is one of these
abbrev pub is_among : (heights : List ℕ) (h : ℕ) → Bool
is_among heights h = list_any (λ g. g == h) heights

-- so many shares of the failing rows, and the degree bound, are no more than all rows
pub record HasRows (log_blowup h shares failing : ℕ) : Type 0 where
  pub blowup : log_blowup ≤ h
  pub enough : shares * failing + 2 ^ (h - log_blowup) ≤ 2 ^ h

-- the room that a step of the test asks for
abbrev pub HasRoundRoom : (log_blowup : ℕ) → RoundError → Type 0
HasRoundRoom log_blowup r = HasRows log_blowup r.log_height (r.degree + 2) r.failing_rows

-- the room that a batch asks for
abbrev pub HasBatchRoom : (log_blowup : ℕ) → BatchError → Type 0
HasBatchRoom log_blowup b = HasRows log_blowup b.log_height (b.columns + 1) b.failing_rows

-- of words of these log heights, with so many failing positions of the tallest
module _ (heights : List ℕ) (failing : ℕ) where
  -- the round that folds to `h` by the log arity `a`
  abbrev pub round_error : (h a : ℕ) → RoundError
  round_error h a = record {
    log_height = h;
    log_arity = a;
    degree = degree_of (is_among heights h) a;
    failing_rows = budget (tallest heights) failing h;
    bad_challenges =
        degree_of (is_among heights h) a * (budget (tallest heights) failing h + 1);
  }

  -- the rounds of these log arities, from the log height `h` down
  abbrev pub round_errors : (log_arities : List ℕ) (h : ℕ) → List RoundError
  round_errors [] h = []
  round_errors (a ∷ log_arities) h =
      round_error (h - a) a ∷ round_errors log_arities (h - a)

  -- the batch of `t` columns of log height `h`
  abbrev pub batch_error : (h t : ℕ) → BatchError
  batch_error h t = record {
    log_height = h;
    columns = t;
    failing_rows = budget (tallest heights) failing h;
    bad_challenges = (t - 1) * (budget (tallest heights) failing h + 1);
  }

  -- one for each of these log heights, with the number of columns beside it
  abbrev pub batch_errors : (hs counts : List ℕ) → List BatchError
  batch_errors (h ∷ hs) (t ∷ counts) = batch_error h t ∷ batch_errors hs counts
  batch_errors _ _ = []
