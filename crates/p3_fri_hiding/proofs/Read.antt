-- A committed matrix that is read on a domain, whole and without its last columns.
use Rattle.std.proofs.Common.{◌≡◌, ◌<◌, ◌-◌, ℕ, List, [], length, map, take, get_or, sym, ap, ap₂, ◌∙◌, arith}
use Rattle.std.proofs.lemmas.List.{length-map, get_or-map, take-map}
use Rattle.p3_matrix.specs.declared.dense.RowMajorMatrix.{RowMajorMatrix}
use Rattle.p3_matrix.specs.Matrix.{rows, matrix_width}
use Rattle.p3_matrix.proofs.Widths.{row_width}
use Rattle.p3_pcs.specs.Requests.{Held}
use Rattle.p3_stark_pcs.specs.Evaluations.{HoldsEvaluations, held_at}
use Rattle.p3_fri_relation.specs.Setting.{Fields}
use Rattle.p3_fri_hiding_openings.specs.Evaluations.{IsMatrixOf}
use Rattle.p3_fri_hiding_openings.specs.Halves.{shown_of}
use Rattle.p3_fri_hiding_openings.specs.declared.data.HidingFriPcsProverData.{HidingFriPcsProverData}
use Rattle.p3_fri_hiding_openings.specs.Data.{CanReadWhole}

pub is_matrix_of : {F E T : Type 0} (f : Fields F E) (committed : T → List (RowMajorMatrix F)) (b r : ℕ)
    (d : HidingFriPcsProverData T) (index : ℕ) → CanReadWhole f committed b r d index
    → IsMatrixOf f.two_adicity (committed d.inner) index
is_matrix_of f committed b r d index can = record { below = can.below; coset = can.coset }

-- values of which each row loses its last entries
module _ {F E : Type 0} (lift : F → E) (point : ℕ → E) (size : ℕ) (values kept : RowMajorMatrix F) (hidden : ℕ)
    (held : Held E) (are : HoldsEvaluations lift point size held.values_at values)
    (cut : rows kept ≡ map (λ row. take (matrix_width values - hidden) row) (rows values)) where
  shown_row : (i : ℕ) → i < size
      → map lift (get_or (rows kept) i []) ≡ (shown_of hidden held).values_at (point i)
  shown_row i l =
      let inside : i < length (rows values) = omega (arith, l, are.height) in
      let row = get_or (rows values) i [] in
      let width : length (held.values_at (point i)) ≡ matrix_width values =
      ap length (sym (are.value i l)) ∙ length-map row lift ∙ row_width values i inside in
      ap (λ rs. map lift (get_or rs i [])) cut
      ∙ ap (map lift) (get_or-map (λ r. take (matrix_width values - hidden) r) (rows values) i [] [] inside)
      ∙ sym (take-map lift (matrix_width values - hidden) row)
      ∙ ap₂ (λ n ys. take (n - hidden) ys) (sym width) (are.value i l)

  pub shown_read : HoldsEvaluations lift point size (shown_of hidden held).values_at kept
  shown_read = record {
    height = ap length cut ∙ length-map (rows values) (λ row. take (matrix_width values - hidden) row) ∙ are.height;
    value = shown_row;
  }

-- of the matrix at an index what is shown is what is shown of the one there
pub shown_at : {E : Type 0} (hidden : ℕ) (ms : List (Held E)) (index : ℕ) → index < length ms
    → held_at (map (shown_of hidden) ms) index ≡ shown_of hidden (held_at ms index)
shown_at hidden ms index below =
    get_or-map (shown_of hidden) ms index (record { size = 0; values_at = λ z. [] })
    (record { size = 0; values_at = λ z. [] }) below
