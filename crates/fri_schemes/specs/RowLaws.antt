-- Such matrices are those that each scheme commits to, and what it commits to has their columns.
use Rattle.std.specs.Prelude.{◌≡◌, ◌+◌, ◌*◌, ◌^◌, ℕ, List, All, true, false, length}
use Rattle.std.proofs.Common.{sym, subst, ap, ◌∙◌, add-one, arith}
use Rattle.std.proofs.lemmas.List.{length-map}
use Rattle.algebra.specs.Polynomial.{tabulate}
use Rattle.algebra.proofs.Lists.{length-tabulate}
use Rattle.algebra.proofs.Powers.{double}
use Rattle.p3_matrix.specs.declared.dense.RowMajorMatrix.{RowMajorMatrix}
use Rattle.p3_matrix.specs.Matrix.{rows, matrix_width}
use Rattle.p3_pcs.specs.Requests.{Held}
use Rattle.p3_fri_relation.specs.Setting.{Fields}
use Rattle.p3_fri_two_adic.specs.Held.{Extends}
use Rattle.p3_fri_extensions.specs.Extension.{FitsDomain}
use Rattle.p3_fri_hiding.specs.Trace.{FitsMasked}
use Rattle.fri_schemes.specs.Rows.{FitsRows}

plain_fits : {V : Type 0} (most b log_size : ℕ) (values : RowMajorMatrix V)
    → FitsRows most false b log_size values → FitsDomain most b log_size values
plain_fits most b log_size values h =
    record { height = h.height ∙ ap (λ k. 2 ^ k) (sym h.size); within = h.within }

-- twice the rows
twice : (n k log_size : ℕ) → n ≡ 2 ^ k → log_size ≡ k + 1 → 2 * n ≡ 2 ^ log_size
twice n k log_size height size =
    let more : 2 ^ log_size ≡ 2 ^ k + 2 ^ k = ap (λ m. 2 ^ m) (size ∙ add-one k) ∙ double k in
    omega (arith, more, height)

hiding_fits : {V : Type 0} (most b log_size : ℕ) (values : RowMajorMatrix V)
    → FitsRows most true b log_size values → FitsMasked most b log_size values
hiding_fits most b log_size values h = record {
  twice = twice (length (rows values)) h.log_height log_size h.height h.size;
  within = h.within;
}

-- over a field of the two-adicity `most`
module _ {Dom V : Type 0} (most : ℕ) (log_size : Dom → ℕ) (b c : ℕ) (same : b ≡ c)
    (evaluations : List (Dom × RowMajorMatrix V)) where
  pub plain_rows : All (λ e. FitsRows most false b (log_size e.0) e.1) evaluations
      → All (λ e. FitsDomain most c (log_size e.0) e.1) evaluations
  plain_rows fit = subst (λ n. All (λ e. FitsDomain most n (log_size e.0) e.1) evaluations) same
      (λ i d h. plain_fits most b _ _ (fit i d h))

  pub hiding_rows : All (λ e. FitsRows most true b (log_size e.0) e.1) evaluations
      → All (λ e. FitsMasked most c (log_size e.0) e.1) evaluations
  hiding_rows fit = subst (λ n. All (λ e. FitsMasked most n (log_size e.0) e.1) evaluations) same
      (λ i d h. hiding_fits most b _ _ (fit i d h))

-- what the plain scheme commits to of a matrix has its columns
pub plain_columns : {F E : Type 0} (f : Fields F E) (shift : F) (k : ℕ) (values : RowMajorMatrix F)
    (m : Held E) → Extends f shift k values m → (z : E)
    → length (m.values_at z) ≡ matrix_width values
plain_columns f shift k values m h z =
    ap length (h.polynomials.values z) ∙ length-map (tabulate (matrix_width values) _) _
    ∙ length-tabulate (matrix_width values) _
