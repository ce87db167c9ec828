-- What a scheme that tests run by commits to.
use Rattle.std.specs.Prelude.{◌≡◌, ◌≤◌, ◌^◌, ℕ, List, Bool, true, length, All}
use Rattle.algebra.specs.Field.{FieldOps}
use Rattle.p3_matrix.specs.declared.dense.RowMajorMatrix.{RowMajorMatrix}
use Rattle.p3_pcs.specs.Scheme.{Scheme}
use Rattle.p3_stark_pcs.specs.Scheme.{StarkScheme}
use Rattle.p3_fri_two_adic.specs.Ldes.{HasLdeHeight}
use Rattle.p3_fri_hiding.specs.Quotients.{CanExtend}
use Rattle.p3_fri_hiding_tests.specs.Fits.{Fits}

-- with a blowup of 4: columns beside domains of twice as many points, random polynomials on small
-- domains, words, and chunks of a quotient; and it hides
pub record Commits {E C F Dom Com D Proof Error ProverError : Type 0}
    (r : Scheme E C F Dom Com D Proof Error ProverError) (t : StarkScheme E F Dom D ProverError)
    (is_hiding : Bool) (ops : FieldOps F) (shift : Dom → F) (log_size : Dom → ℕ) : Type 0 where
  pub columns : (es : List (Dom × RowMajorMatrix F)) → All (λ e. Fits 2 (log_size e.0) e.1) es
      → r.CanCommit es
  pub words : (ws : List (RowMajorMatrix F)) → All (HasLdeHeight 27 2) ws → t.CanCommitLdes ws
  pub chunks : (es : List (Dom × RowMajorMatrix F))
      → CanExtend ops shift log_size 27 2 es (length es) → t.CanExtend es (length es)
  pub random : (ds : List Dom) → All (λ d. log_size d ≤ 8) ds → t.CanRandomize ds
  pub sizes : r.domain_size ≡ (λ d. 2 ^ log_size d)
  pub hides : is_hiding ≡ true
