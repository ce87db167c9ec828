-- Counts that aren't as asked.
use Rattle.std.specs.Prelude.{◌≡◌, ◌≢◌, ℕ}

-- a wrong count: `expected` is what is asked for, and `got`, which is another, what is found
pub record IsWrongCount (asked found expected got : ℕ) : Type 0 where
  pub expected_is : expected ≡ asked
  pub got_is : got ≡ found
  pub differ : expected ≢ got
