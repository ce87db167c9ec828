-- What a scheme of a blowup of 2 commits to.
use Rattle.std.specs.Prelude.{◌≡◌, ◌^◌, ℕ, List, All}
use Rattle.p3_matrix.specs.declared.dense.RowMajorMatrix.{RowMajorMatrix}
use Rattle.p3_pcs.specs.Scheme.{Scheme}
use Rattle.p3_fri_extensions.specs.Extension.{FitsDomain}

-- Domains have `2^log_size` points, and there is a natural one as large as each. Columns on domains
-- with an extension within the two-adicity of 27 may be committed to.
pub record HasRoom {E C V Dom Com D Proof Error ProverError : Type 0}
    (r : Scheme E C V Dom Com D Proof Error ProverError) (log_size : Dom → ℕ) : Type 0 where
  pub sizes : (d : Dom) → r.domain_size d ≡ 2 ^ log_size d
  pub natural : (d : Dom) → r.HasDomain (2 ^ log_size d)
  pub commit : (es : List (Dom × RowMajorMatrix V))
      → All (λ e. FitsDomain 27 1 (log_size e.0) e.1) es → r.CanCommit es
