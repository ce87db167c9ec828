-- A list of so many whole rows.
use Rattle.std.proofs.Common.{◌≡◌, ◌<◌, ◌*◌, ◌/◌, ◌%◌, ℕ, List, length, ap, ◌∙◌}
use Rattle.std.proofs.Math.Nat.{mul-mod_left, mul-div_cancel}
use Rattle.p3_matrix.specs.Rows.{rows_of}
use Rattle.p3_matrix.proofs.Rows.{length-rows_of}

module _ {A : Type 0} (height width : ℕ) (some : 0 < width) (xs : List A)
    (full : length xs ≡ height * width) where
  pub whole : length xs % width ≡ 0
  whole = ap (λ n. n % width) full ∙ mul-mod_left height width

  pub as_high : length (rows_of width xs) ≡ height
  as_high = length-rows_of width xs ∙ ap (λ n. n / width) full ∙ mul-div_cancel height some
