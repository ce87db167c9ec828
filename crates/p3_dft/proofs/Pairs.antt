-- The two blocks that a butterfly reads: pair `i` of neighbouring blocks of `h` entries.
use Rattle.std.proofs.Common.{◌≡◌, ℕ, ◌+◌, ◌*◌, ◌≤◌, List, length, ◌∙◌, arith}
use Rattle.std.specs.List.{between}
use Rattle.std.proofs.lemmas.List.Edits.{length-between}

module _ {A : Type 0} (xs : List A) (i h : ℕ) (fits : i * (h + h) + (h + h) ≤ length xs) where
  pub length-first : length (between (i * h + i * h) (i * h + i * h + h) xs) ≡ h
  length-first = length-between xs (i * h + i * h) (i * h + i * h + h) (omega (arith, fits)) ∙ omega arith

pub length-block : {A : Type 0} (xs : List A) (i h : ℕ) → i * h + h ≤ length xs → length (between (i * h) (i * h + h) xs) ≡ h
length-block xs i h fits = length-between xs (i * h) (i * h + h) fits ∙ omega arith
