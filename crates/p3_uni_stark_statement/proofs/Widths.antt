-- Rows of one width, one after another.
use Rattle.std.proofs.Common.{◌≡◌, ℕ, ◌*◌, ◌%◌, ◌<◌, List, [], ◌∷◌, length, All, arith, ap, ◌∙◌}
use Rattle.std.proofs.Common.{length-append}
use Rattle.std.proofs.lemmas.List.Elements.{All-tail}
use Rattle.std.proofs.Math.Nat.{mul-mod_left}
use Rattle.algebra.specs.Nested.{joined}
use Rattle.algebra.proofs.Lists.{Each}
use Rattle.p3_matrix.specs.Rows.{rows_of}
use Rattle.p3_matrix.proofs.Columns.{rows_of-joined}

module _ {A : Type 0} (w : ℕ) where
  each_row : (rs : List (List A)) → All (λ r. length r ≡ w) rs → Each (λ r. length r ≡ w) rs
  each_row [] h = tt
  each_row (r ∷ rs) h =
      (h 0 [] (omega arith), each_row rs (All-tail (λ r. length r ≡ w) r rs h))

  length_joined : (rs : List (List A)) → Each (λ r. length r ≡ w) rs
      → length (joined rs) ≡ length rs * w
  length_joined [] h = omega arith
  length_joined (r ∷ rs) h =
      omega (arith, length-append r (joined rs), h.0, length_joined rs h.1)

  pub whole_rows : (rs : List (List A)) → 0 < w → All (λ r. length r ≡ w) rs
      → length (joined rs) % w ≡ 0
  whole_rows rs some h =
      ap (λ n. n % w) (length_joined rs (each_row rs h)) ∙ mul-mod_left (length rs) w

  pub rows_joined : (rs : List (List A)) → 0 < w → All (λ r. length r ≡ w) rs
      → rows_of w (joined rs) ≡ rs
  rows_joined rs some h = rows_of-joined w some rs (each_row rs h)
