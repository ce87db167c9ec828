-- That a scheme has room for columns.
use Rattle.std.specs.Prelude.{◌≡◌, ◌^◌, ℕ, List, All}
use Rattle.std.proofs.Common.{sym, subst}
use Rattle.p3_matrix.specs.declared.dense.RowMajorMatrix.{RowMajorMatrix}
use Rattle.p3_pcs.specs.Scheme.{Scheme}
use Rattle.p3_fri_extensions.specs.Extension.{FitsDomain}
use Rattle.p3_fri_two_adic_tests.specs.Room.{HasRoom}

-- where its blowup is `2^log_blowup`
pub has_room : {E C V Dom Com D Proof Error ProverError : Type 0} (log_blowup : ℕ)
    → log_blowup ≡ 1 → (r : Scheme E C V Dom Com D Proof Error ProverError)
    → (log_size : Dom → ℕ) → ((d : Dom) → r.domain_size d ≡ 2 ^ log_size d)
    → ((d : Dom) → r.HasDomain (2 ^ log_size d))
    → ((es : List (Dom × RowMajorMatrix V))
    → All (λ e. FitsDomain 27 log_blowup (log_size e.0) e.1) es → r.CanCommit es)
    → HasRoom r log_size
has_room log_blowup is r log_size sizes natural commit = record {
  sizes = sizes;
  natural = natural;
  commit = λ es h. commit es
      (subst (λ b. All (λ e. FitsDomain 27 b (log_size e.0) e.1) es) (sym is) h);
}
