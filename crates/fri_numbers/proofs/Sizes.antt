-- Matrices of whole rows.
use Rattle.std.proofs.Common.{◌≡◌, ◌<◌, ℕ, ◌+◌, ◌*◌, ◌%◌, List, length, ap, ◌∙◌, arith, mul_comm}
use Rattle.std.proofs.lemmas.Nat.{mod-mul-add}
use Rattle.p3_matrix.specs.Rows.{rows_of}
use Rattle.p3_matrix.proofs.Rows.{length-rows_of}
use Rattle.p3_dft.proofs.Columns.{quotient_of}

-- a product leaves no part of a row
pub whole_rows : (n w h : ℕ) → n ≡ w * h → 0 < w → n % w ≡ 0
whole_rows n w h size some =
    let whole : n ≡ h * w + 0 = omega (arith, size ∙ mul_comm w h) in
    ap (λ m. m % w) whole ∙ mod-mul-add h w 0 some

-- and has as many rows as the other factor
pub height_of : {A : Type 0} (w h : ℕ) (xs : List A) → length xs ≡ w * h → 0 < w
    → length (rows_of w xs) ≡ h
height_of w h xs size some =
    length-rows_of w xs ∙ quotient_of h w (length xs) some (size ∙ mul_comm w h)
