-- Columns that repeat along a trace, and why a column doesn't.
use Rattle.std.specs.Prelude.{◌≡◌, ◌≢◌, ◌<◌, ◌%◌, ℕ, List, [], ◌∷◌, All, length, take, vec_len, max}
use Rattle.std.specs.Int.{IsPowerOfTwo}
use Rattle.std.specs.List.{HoldsAt}
use Rattle.std.specs.declared.vec.Vec.{Vec}
use Rattle.p3_periodic.specs.declared.error.PeriodicError.{PeriodicError}
use Rattle.p3_periodic.specs.declared.error.PeriodicError.TheVariants.{NotPowerOfTwo}
use Rattle.p3_periodic.specs.declared.error.PeriodicError.TheVariants.{DoesNotDivide, OutOfMemory}

module _ (height : ℕ) where
  -- a column of this length repeats along a trace of `height` rows
  pub record IsPeriod (period : ℕ) : Type 0 where
    pub power_of_two : IsPowerOfTwo period
    pub divides : height % period ≡ 0

  -- why the column of this number and length doesn't
  abbrev pub PeriodFault : (place period : ℕ) → PeriodicError → Type 0
  PeriodFault place period (NotPowerOfTwo column length) =
      (¬ IsPowerOfTwo period) × (column ≡ place) × (length ≡ period)
  PeriodFault place period (DoesNotDivide column length trace_height) =
      IsPowerOfTwo period × (height % period ≢ 0)
      × (column ≡ place) × (length ≡ period) × (trace_height ≡ height)
  PeriodFault place period _ = ⊥

  module _ {T A : Type 0} where
    abbrev pub HasPeriod : Vec T A → Type 0
    HasPeriod column = IsPeriod (vec_len column)

    -- the first column that doesn't repeat is refused
    pub record FirstFault (columns : List (Vec T A)) (fault : PeriodicError) : Type 0 where
      pub place : ℕ
      pub within : place < length columns
      pub before : All HasPeriod (take place columns)
      pub here : HoldsAt (λ column. PeriodFault place (vec_len column) fault) columns place

    -- why a call on these columns is refused: memory is asked for only where each repeats
    abbrev pub Refuses : (columns : List (Vec T A)) → PeriodicError → Type 0
    Refuses columns OutOfMemory = All HasPeriod columns
    Refuses columns fault = FirstFault columns fault

-- the greatest length of a column, 0 where there is none
abbrev pub greatest_period : {T A : Type 0} (columns : List (Vec T A)) → ℕ
greatest_period [] = 0
greatest_period (column ∷ columns) = max (vec_len column) (greatest_period columns)
