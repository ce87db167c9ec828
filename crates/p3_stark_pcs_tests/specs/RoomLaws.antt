-- That a scheme has room for columns.
use Rattle.std.specs.Prelude.{◌≡◌, ◌^◌, ℕ, List, All}
use Rattle.std.proofs.Common.{sym, subst}
use Rattle.p3_matrix.specs.declared.dense.RowMajorMatrix.{RowMajorMatrix}
use Rattle.p3_pcs.specs.Scheme.{Scheme}
use Rattle.p3_stark_pcs.specs.Scheme.{StarkScheme}
use Rattle.p3_fri_extensions.specs.Extension.{FitsDomain}
use Rattle.p3_stark_pcs_tests.specs.Room.{HasRoom}

-- where its blowup is `2^log_blowup`
pub has_room : {E C V Dom Com D Proof Error ProverError : Type 0} (log_blowup : ℕ)
    → log_blowup ≡ 1 → (r : Scheme E C V Dom Com D Proof Error ProverError)
    → (t : StarkScheme E V Dom D ProverError) → (log_size : Dom → ℕ)
    → ((d : Dom) → r.domain_size d ≡ 2 ^ log_size d)
    → ((es : List (Dom × RowMajorMatrix V))
    → All (λ e. FitsDomain 27 log_blowup (log_size e.0) e.1) es → r.CanCommit es)
    → ((es : List (Dom × RowMajorMatrix V)) (n : ℕ)
    → All (λ e. FitsDomain 27 log_blowup (log_size e.0) e.1) es → t.CanExtend es n)
    → ((ds : List Dom) → t.CanRandomize ds) → HasRoom r t log_size
has_room log_blowup is r t log_size sizes commit extend randomize = record {
  sizes = sizes;
  commit = λ es h. commit es
      (subst (λ b. All (λ e. FitsDomain 27 b (log_size e.0) e.1) es) (sym is) h);
  extend = λ es n h. extend es n
      (subst (λ b. All (λ e. FitsDomain 27 b (log_size e.0) e.1) es) (sym is) h);
  randomize = randomize;
}
