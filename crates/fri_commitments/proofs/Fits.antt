-- What fits a scheme, by equal numbers.
use Rattle.std.proofs.Common.{◌≡◌, ℕ, Bool, List, All, subst}
use Rattle.p3_matrix.specs.declared.dense.RowMajorMatrix.{RowMajorMatrix}
use Rattle.fri_schemes.specs.Rows.{FitsRows}

-- over a field of this two-adicity
pub fits_as : {F Dom : Type 0} (most : ℕ) (es : List (Dom × RowMajorMatrix F)) (log_size_of : Dom → ℕ)
    {h k : Bool} {b d : ℕ} → h ≡ k → b ≡ d → All (λ e. FitsRows most h b (log_size_of e.0) e.1) es
    → All (λ e. FitsRows most k d (log_size_of e.0) e.1) es
fits_as most es log_size_of {h} {k} {b} {d} same_hiding same_blowup fit =
    subst (λ n. All (λ e. FitsRows most k n (log_size_of e.0) e.1) es) same_blowup
    (subst (λ q. All (λ e. FitsRows most q b (log_size_of e.0) e.1) es) same_hiding fit)
