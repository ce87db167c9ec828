-- The first column that doesn't repeat, found by going through the columns.
use Rattle.std.proofs.Common.{◌≡◌, ℕ, ◌<◌, ◌≤◌, ◌+◌, List, length, take, get_or, All, subst}
use Rattle.std.specs.Prelude.{Bool, false, IsTrue, vec_len}
use Rattle.std.specs.Int.{IsPowerOfTwo, is_power_of_two}
use Rattle.p3_field_core.proofs.IndexPowers.{IsPowerOfTwo_test}
use Rattle.std.proofs.lemmas.List.{take_all}
use Rattle.std.proofs.lemmas.List.Elements.{All-more, at_read}
use Rattle.std.specs.declared.vec.Vec.{Vec}
use Rattle.p3_periodic.specs.declared.error.PeriodicError.{PeriodicError}
use Rattle.p3_periodic.specs.Columns.{HasPeriod, PeriodFault, FirstFault}

module _ {T A : Type 0} (height : ℕ) (columns : List (Vec T A)) where
  pub first_at : (i : ℕ) (column : Vec T A) (fault : PeriodicError) → i < length columns
      → column ≡ get_or columns i column → All (HasPeriod height) (take i columns)
      → PeriodFault height i (vec_len column) fault → FirstFault height columns fault
  first_at i column fault l e before here = record {
    place = i;
    within = l;
    before = before;
    here = at_read columns (λ c. PeriodFault height i (vec_len c) fault) i column l e here;
  }

  pub one_more : (i : ℕ) (column : Vec T A) → i < length columns
      → column ≡ get_or columns i column → All (HasPeriod height) (take i columns)
      → HasPeriod height column → All (HasPeriod height) (take (i + 1) columns)
  one_more i column l e before here =
      All-more (HasPeriod height) columns i column l before (subst (HasPeriod height) e here)

  pub to_the_end : (i : ℕ) → length columns ≤ i → All (HasPeriod height) (take i columns)
      → All (HasPeriod height) columns
  to_the_end i l all = subst (λ cs. All (HasPeriod height) cs) (take_all i columns l) all

-- what the test for powers of two says
pub is_power : (n : ℕ) (b : Bool) → b ≡ is_power_of_two n → IsTrue b → IsPowerOfTwo n
is_power n b e t = (IsPowerOfTwo_test n).0 (subst IsTrue e t)

pub not_power : (n : ℕ) (b : Bool) → b ≡ is_power_of_two n → b ≡ false → ¬ IsPowerOfTwo n
not_power n b e f p =
    let passed = (IsPowerOfTwo_test n).1 p in
    cc
