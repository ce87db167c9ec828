-- What a layer of a transform makes of a block of entries.
use Rattle.std.specs.Prelude.{ℕ, ◌+◌, ◌*◌, List, slice_index_or}
use Rattle.algebra.specs.Field.{FieldOps, sub}

module _ {A : Type 0} where
  -- entry `j` of the list (`d` is the default of that look-up)
  abbrev pub entry : (xs : List A) (d : A) (j : ℕ) → A
  entry xs d j = slice_index_or xs j d

  -- entry `j` of block `m`, where blocks of `size` entries lie one after another
  abbrev pub block_entry : (xs : List A) (size : ℕ) (d : A) (m j : ℕ) → A
  block_entry xs size d m j = slice_index_or xs (m * size + j) d

module _ {A : Type 0} (F : FieldOps A) where
  -- of a block with the entries `x j` for `j` below `half + half`: the sum of entry `j` of the
  -- first half and its fellow in the second, times the twiddle `t`
  abbrev pub sum_at : (x : ℕ → A) (t : A) (half j : ℕ) → A
  sum_at x t half j = F.add (x j) (F.mul (x (j + half)) t)

  -- and their difference
  abbrev pub difference_at : (x : ℕ → A) (t : A) (half j : ℕ) → A
  difference_at x t half j = sub F (x j) (F.mul (x (j + half)) t)

  -- of two layers the sum of sums, and so on: the second layer takes the sums of the first with
  -- the twiddle `even`, and the differences with `odd`
  abbrev pub sum_of_sums : (x : ℕ → A) (t even : A) (quarter j : ℕ) → A
  sum_of_sums x t even quarter j = sum_at (sum_at x t (quarter + quarter)) even quarter j

  abbrev pub difference_of_sums : (x : ℕ → A) (t even : A) (quarter j : ℕ) → A
  difference_of_sums x t even quarter j =
      difference_at (sum_at x t (quarter + quarter)) even quarter j

  abbrev pub sum_of_differences : (x : ℕ → A) (t odd : A) (quarter j : ℕ) → A
  sum_of_differences x t odd quarter j =
      sum_at (difference_at x t (quarter + quarter)) odd quarter j

  abbrev pub difference_of_differences : (x : ℕ → A) (t odd : A) (quarter j : ℕ) → A
  difference_of_differences x t odd quarter j =
      difference_at (difference_at x t (quarter + quarter)) odd quarter j
